-- What the turn of a thread leaves of a world, whatever holds of it.
use Rattle.std.specs.Prelude.{slice_set}
use Rattle.std.proofs.Common.{◌≡◌, ℕ, ◌+◌, ◌-◌, List, Option, Some, None, refl, ap, ◌∙◌}
use Rattle.std.specs.Option.{option_map}
use Rattle.std.proofs.lemmas.List.{set-set}
use Rattle.heap_words.specs.Layouts.{Sizes}
use Rattle.heap_history.specs.declared.call.Ended.{Ended}
use Rattle.barriers.specs.declared.machine_end.Request.{Request}
use Rattle.barriers.specs.declared.machine_end.Request.TheVariants as requests
use Rattle.barriers.specs.declared.pass.PassRecord.{PassRecord}
use Rattle.barriers.specs.declared.pass.PassMachine.{PassMachine}
use Rattle.barriers.specs.Kits.{Kit}
use Rattle.barriers.specs.Records.{started, machine_for}
use Rattle.gc_cycle.specs.declared.sequel.InRegister.{InRegister}
use Rattle.gc_cycle.specs.declared.sequel.Sequel.{Sequel}
use Rattle.gc_cycle.specs.declared.sequel.Sequel.TheVariants as sequel
use Rattle.gc_cycle.specs.Worlds.{State, logged, put_pass, answered, next_request, access_begun, followed_at, or_else, in_front, with_put}
use Rattle.gc_cycle.proofs.records.Ends.{called, seen_with_call}
use Rattle.gc_cycle.proofs.records.Following.{begun_or, followed_by}

-- the words are these, the record of one pass is this, and this call has ended
pub record Leaves {R W E M : Type 0} (w : State R W E M) (party : ℕ) (after : List ℕ) (next : State R W E M) (p : PassRecord R W E) (call : Option Ended) : Type 0 where
  pub layout : next.layout ≡ w.layout
  pub words : next.words ≡ after
  pub passes : next.passes ≡ slice_set w.passes (party - 1) p
  pub collector : next.collector ≡ w.collector
  pub plan : next.plan ≡ w.plan
  pub awaited : next.awaited ≡ w.awaited
  pub sealed : next.sealed ≡ w.sealed
  pub moved : next.moved ≡ w.moved
  pub log : (let told = next.told in told.log) ≡ logged (let told = w.told in told.log) call

-- one record set after another
pub leaves_after : {R W E M : Type 0} → (w middle next : State R W E M) (party : ℕ) (words : List ℕ) (p q : PassRecord R W E) (call : Option Ended) → Leaves w party words middle p None → Leaves middle party middle.words next q call → Leaves w party words next q call
leaves_after w middle next party words p q call first then = record {
  layout = then.layout ∙ first.layout;
  words = then.words ∙ first.words;
  passes = then.passes ∙ ap (λ ps. slice_set ps (party - 1) q) first.passes ∙ set-set w.passes (party - 1) p q;
  collector = then.collector ∙ first.collector;
  plan = then.plan ∙ first.plan;
  awaited = then.awaited ∙ first.awaited;
  sealed = then.sealed ∙ first.sealed;
  moved = then.moved ∙ first.moved;
  log = then.log ∙ ap (λ log. logged log call) first.log;
}

module _ {R W E M : Type 0} (kit : Kit R W E M) where
  pub put_leaves : (w : State R W E M) (party : ℕ) (p : PassRecord R W E) → Leaves w party w.words (put_pass w party p) p None
  put_leaves w party p = record { layout = refl; words = refl; passes = refl; collector = refl; plan = refl; awaited = refl; sealed = refl; moved = refl; log = refl }

  abbrev pub next_of_world : State R W E M → ℕ → Request
  next_of_world w party = next_request w party (answered w party + 1)

  begun_leaves : (w : State R W E M) (party : ℕ) (p : PassRecord R W E) (o : Option (PassRecord R W E)) → Leaves w party w.words (access_begun kit w party p o) (or_else o (begun_or kit w.layout p (next_of_world w party))) None
  begun_leaves w party p None = record { layout = refl; words = refl; passes = refl; collector = refl; plan = refl; awaited = refl; sealed = refl; moved = refl; log = refl }
  begun_leaves w party p (Some next) = record { layout = refl; words = refl; passes = refl; collector = refl; plan = refl; awaited = refl; sealed = refl; moved = refl; log = refl }

  pub followed_leaves : (w : State R W E M) (party : ℕ) (p : PassRecord R W E) (s : Sequel) → Leaves w party w.words (followed_at kit w party p s) (followed_by kit w.layout (next_of_world w party) p s) (called s)
  followed_leaves w party p sequel.Nothing = put_leaves w party p
  followed_leaves w party p (sequel.Starts request) = begun_leaves w party p (started kit w.layout p request)
  followed_leaves w party p (sequel.Answered put answer ended) = record { layout = refl; words = refl; passes = refl; collector = refl; plan = refl; awaited = refl; sealed = refl; moved = refl; log = refl }
  followed_leaves w party p (sequel.Retries why) = record { layout = refl; words = refl; passes = refl; collector = refl; plan = refl; awaited = refl; sealed = refl; moved = refl; log = refl }

  -- ---- what of the record stays where machines begin

  pub record SameFace (p q : PassRecord R W E) : Type 0 where
    pub view : q.view ≡ p.view
    pub seen : q.seen ≡ p.seen

  begun_face : (p q : PassRecord R W E) (o : Option (PassMachine R W E)) → SameFace p q → SameFace p (or_else (option_map (λ (m : PassMachine R W E). record p { machine = m }) o) q)
  begun_face p q None same = same
  begun_face p q (Some m) same = record { view = refl; seen = refl }

  or_face : (l : Sizes) (p : PassRecord R W E) (request : Request) → SameFace p (begun_or kit l p request)
  or_face l p request = begun_face p p (machine_for kit l p request) (record { view = refl; seen = refl })

  put_face : (p : PassRecord R W E) (put : Option InRegister) (call : Option Ended) → (let q = in_front (with_put p put) call in (q.view ≡ p.view) × (q.seen ≡ seen_with_call p.seen call))
  put_face p None None = (refl, refl)
  put_face p None (Some e) = (refl, refl)
  put_face p (Some put) None = (refl, refl)
  put_face p (Some put) (Some e) = (refl, refl)

  pub followed_face : (l : Sizes) (next : Request) (p : PassRecord R W E) (s : Sequel) → (let q = followed_by kit l next p s in (q.view ≡ p.view) × (q.seen ≡ seen_with_call p.seen (called s)))
  followed_face l next p sequel.Nothing = (refl, refl)
  followed_face l next p (sequel.Starts request) = let same = begun_face p (begun_or kit l p next) (machine_for kit l p request) (or_face l p next) in (same.view, same.seen)
  followed_face l next p (sequel.Answered put answer ended) =
      let held = put_face p put ended in
      let same = or_face l (in_front (with_put p put) ended) next in
      (same.view ∙ held.0, same.seen ∙ held.1)
  followed_face l next p (sequel.Retries why) = let same = or_face l p requests.Poll in (same.view, same.seen)
