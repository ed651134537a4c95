-- A new object of a pass, as others see it.
use Rattle.std.proofs.Common.{◌≡◌, ℕ}
use Rattle.object_headers.specs.declared.header.Colour.TheVariants.{Even}
use Rattle.heap_history.specs.FixedHeaps.{answer}
use Rattle.heap_history.specs.NewestFirst.{heap_of_history}
use Rattle.heap_history.specs.declared.call.Call.TheVariants.{NewObject}
use Rattle.heap_history.specs.declared.call.Reply.TheVariants.{Made}
use Rattle.barriers.specs.States.{Absent}
use Rattle.barriers.specs.Spaces.{Space}
use Rattle.barriers.specs.Says.{append}
use Rattle.barriers.specs.Cycles.{Cycle}
use Rattle.barriers.specs.Objects.{AreObjects, HasLens}
use Rattle.barriers.specs.ProtocolLaws.{ProtocolLaws}
use Rattle.barriers.specs.Protocols.{Protocol}
use Rattle.barriers.proofs.objects.Made.{made_seen, made_objects, made_lens}
use Rattle.lawful_records.specs.Frames.{SeenBy}
use Rattle.lawful_records.proofs.frames.SeenTurns.{seen_by_others}

-- the space with it
abbrev pub with_new : Space → ℕ → ℕ → ℕ → ℕ → Space
with_new s region len birth pass = append s region len birth Even (NewObject pass birth len)

-- where no object begins, and the heap makes it
module _ (P : Protocol) (laws : ProtocolLaws P) (c : Cycle) (s : Space) (objects : AreObjects P c s) (lens : HasLens s) (region len birth pass : ℕ) (absent : s.state (s.ends region) ≡ Absent)
    (made : answer (heap_of_history s.history) (NewObject pass birth len) ≡ Made) where
  pub new_objects : AreObjects P c (with_new s region len birth pass)
  new_objects = made_objects P laws c s objects lens region len birth Even pass absent made

  pub new_lens : HasLens (with_new s region len birth pass)
  new_lens = made_lens P laws c s objects lens region len birth Even pass absent made

  pub new_seen : SeenBy P c s (with_new s region len birth pass)
  new_seen = seen_by_others P laws c s (with_new s region len birth pass) objects (made_seen P laws c s objects lens region len birth Even pass absent made)
