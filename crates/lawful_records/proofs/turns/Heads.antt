-- Headers change as the table of allowed changes says, under every turn of every party.
use Rattle.std.proofs.Common.{◌≡◌, ◌≢◌, ℕ, ◌⊎◌, inl, inr, true, refl, List, ◌∷◌}
use Rattle.call_steps.specs.Steps.{applied}
use Rattle.heap_words.specs.Layouts.{Sizes}
use Rattle.object_headers.specs.declared.change.Kind.{Kind}
use Rattle.object_headers.specs.declared.header.Colour.{Colour}
use Rattle.object_headers.specs.Changes.{does_tag, AllowedChange}
use Rattle.barriers.specs.States.{State, Absent, Plain, Kept, Tagged, Wide, Moving, Underway, Forward, Dead, IsLive}
use Rattle.barriers.specs.Spaces.{Space}
use Rattle.barriers.specs.Says.{header_by, header_in}
use Rattle.barriers.specs.Events.{Keep}
use Rattle.barriers.specs.Kits.{Kit, Stepping}
use Rattle.lawful_records.specs.Cycling.{announced_by, cycle_of}
use Rattle.lawful_records.specs.Frames.{IsSameAt, Left, Same, Untagged, Born}
use Rattle.lawful_records.specs.HeaderChanges.{HeadersChange}
use Rattle.lawful_records.specs.LawfulRecords.{LawfulRecords}
use Rattle.lawful_records.specs.PassTurns.{HasTurn}
use Rattle.lawful_records.specs.Turns.{pass_asks}
use Rattle.lawful_records.specs.declared.records.PassKnown.{PassKnown}
use Rattle.lawful_records.specs.declared.records.Party.{Party}
use Rattle.lawful_records.specs.declared.records.Party.TheVariants as party

state_cases : (x : State) → (x ≡ Absent) ⊎ (x ≢ Absent)
state_cases Absent = inl refl
state_cases Plain = inr (λ e. cc e)
state_cases Kept = inr (λ e. cc e)
state_cases Tagged = inr (λ e. cc e)
state_cases (Wide wide) = inr (λ e. cc e)
state_cases (Moving to) = inr (λ e. cc e)
state_cases Underway = inr (λ e. cc e)
state_cases (Forward to) = inr (λ e. cc e)
state_cases Dead = inr (λ e. cc e)

-- a copier that tags has this change
untagged : (kind : Kind) (c : Colour) (len birth : ℕ) → does_tag kind ≡ true → AllowedChange kind (header_by Tagged c len birth) (header_by Kept c len birth)
untagged kind c len birth tags = rw tags ((refl, refl), refl)

module _ {R W E M : Type 0} (kit : Kit R W E M) where
  headers_change : (kind : Kind) → (kit.protocol.Makes Keep → does_tag kind ≡ true) → (s t : Space) → ((a : ℕ) → IsLive (s.state a) → IsSameAt s t a) → (a : ℕ) → (l : Sizes) → Left kit.protocol l s t a
      → (header_in t a ≡ header_in s a) ⊎ AllowedChange kind (header_in s a) (header_in t a)
  headers_change kind tags s t heads a l (Same same) = inl (elim (state_cases (s.state a)) [
    | inl none ↦ rw (same.state, none) refl
    | inr there ↦ (let head = same.head there in rw (same.state, head.0, head.1, head.2) refl)
  ])
  headers_change kind tags s t heads a l (Untagged makes was is seal wide) =
      let same = heads a (rw was tt) in
      inr (rw (was, is, same.birth, same.len, same.colour) (untagged kind (s.colour a) (s.len a) (s.birth a) (tags makes)))
  headers_change kind tags s t heads a l (Born was is seal wide own) = inr (rw (was, is) tt)

  -- a turn of a pass
  module _ (by : Stepping R W E M) (l : Sizes) (words : List ℕ) (p : PassKnown R W E) (others : List (Party R W E M)) (w : LawfulRecords kit l words (party.Pass p ∷ others)) where
    pub pass_heads : (kind : Kind) → (kit.protocol.Makes Keep → does_tag kind ≡ true) → HasTurn kit by l (announced_by w.collector) (cycle_of w.collector) w.space w.notices p words → HeadersChange kind l words (applied (pass_asks kit by p.pass.machine) words)
    pass_heads kind tags has = record {
      old = w.space;
      old_notices = w.notices;
      says_old = w.says;
      rows_old = w.rows;
      new = has.space;
      new_notices = has.notices;
      says_new = has.turn.says;
      rows_new = has.turn.rows;
      changes = λ a. headers_change kind tags w.space has.space has.turn.beside.seen.heads a l (has.turn.leaves.left a);
    }
