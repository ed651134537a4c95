-- What a pass does without a step keeps lawful records.
use Rattle.std.specs.Prelude.{option_map}
use Rattle.std.proofs.Common.{◌≡◌, ℕ, inl, inr, List, ◌∷◌, Option, Some, None, refl, sym, ap, ◌∙◌, subst}
use Rattle.std.proofs.lemmas.List.Elements.{All-head}
use Rattle.call_steps.specs.StepLaws.{reading}
use Rattle.call_steps.specs.Chains.{along}
use Rattle.heap_words.specs.Layouts.{Sizes}
use Rattle.barriers.specs.declared.pass.PassRecord.{PassRecord}
use Rattle.barriers.specs.declared.pass.PassMachine.{PassMachine}
use Rattle.barriers.specs.declared.pass.PassMachine.TheVariants as machine
use Rattle.barriers.specs.Kits.{Kit, Stepping, Laws}
use Rattle.barriers.specs.Records.{machine_for}
use Rattle.lawful_records.specs.Beginnings.{TakesIn, Puts, Starts, Begins, BeginsOn}
use Rattle.lawful_records.specs.Fixing.{IsFixedPass, IsFixedParty}
use Rattle.lawful_records.proofs.fixing.BeginFixes.{taken_fixed, put_fixed, begun_fixed}
use Rattle.lawful_records.specs.Cycling.{announced_by, cycle_of}
use Rattle.lawful_records.specs.LawfulRecords.{IsPassRecord, IsParty, LawfulRecords}
use Rattle.lawful_records.specs.PassTurns.{in_machine}
use Rattle.lawful_records.specs.Records.{number_of}
use Rattle.lawful_records.specs.declared.records.PassKnown.{PassKnown}
use Rattle.lawful_records.specs.declared.records.Party.{Party}
use Rattle.lawful_records.specs.declared.records.Party.TheVariants as party
use Rattle.lawful_records.proofs.parties.Assembling.{PassBegun, assemble_begun}
use Rattle.lawful_records.proofs.telling.Beginning.{taken_number}
use Rattle.lawful_records.proofs.beginnings.Putting.{put_record}
use Rattle.lawful_records.proofs.beginnings.Starting.{begun_record, same_number}
use Rattle.lawful_records.proofs.beginnings.Taking.{Standing, taken_record}

-- a value that is there through a function was there before it
some_mapped : {A B : Type 0} → (f : A → B) (o : Option A) (b : B) → option_map f o ≡ Some b → (x : A) × (o ≡ Some x) × (f x ≡ b)
some_mapped f None b is = absurd cc
some_mapped f (Some x) b is = (x, refl, let same : f x ≡ b = cc in same)

module _ {R W E M : Type 0} (kit : Kit R W E M) (by : Stepping R W E M) (laws : Laws kit by) (l : Sizes) (ws : List ℕ) (p : PassKnown R W E) (others : List (Party R W E M)) (w : LawfulRecords kit l ws (party.Pass p ∷ others)) where
  standing : Standing kit l w.space w.notices
  standing = record { layout = w.layout; memory = reading ws; says = w.says; rows = w.rows }

  own : IsPassRecord kit l (announced_by w.collector) (cycle_of w.collector) w.space w.notices p
  own = All-head (IsParty kit l w.collector w.space w.notices) (party.Pass p) others w.each

  fixed : IsFixedPass kit w.collector w.space w.notices p
  fixed = All-head (IsFixedParty kit w.collector w.space w.notices) (party.Pass p) others w.fixed.each

  takes_in : (q : PassKnown R W E) → TakesIn kit p q → PassBegun kit l w.collector w.space w.notices p q
  takes_in q takes = subst (PassBegun kit l w.collector w.space w.notices p) (sym takes.is) (record {
    number = taken_number kit p takes.register;
    seen = refl;
    own = taken_record kit l (announced_by w.collector) (cycle_of w.collector) w.space w.notices standing p takes.register takes.over own;
    fixed = taken_fixed kit w.collector w.space w.notices p takes.register fixed;
  })

  puts : (q : PassKnown R W E) → Puts kit p q → PassBegun kit l w.collector w.space w.notices p q
  puts q put = subst (PassBegun kit l w.collector w.space w.notices p) (sym put.is) (record {
    number = refl;
    seen = refl;
    own = put_record kit l (announced_by w.collector) (cycle_of w.collector) w.space w.notices p put.register put.word put.idle put.has own;
    fixed = put_fixed kit w.collector w.space w.notices p put.register put.word put.idle put.has fixed;
  })

  idle_number : p.pass.machine ≡ machine.Idle → number_of p ≡ number_of (in_machine p machine.Idle)
  idle_number idle = ap (λ (m : PassMachine R W E). number_of (in_machine p m)) idle

  starts : (q : PassKnown R W E) → Starts kit l p q → PassBegun kit l w.collector w.space w.notices p q
  starts q start =
      let to = some_mapped (λ (m : PassMachine R W E). record p.pass { machine = m }) (machine_for kit l p.pass start.request) start.next start.started_is in
      let idle : IsPassRecord kit l (announced_by w.collector) (cycle_of w.collector) w.space w.notices (in_machine p machine.Idle) =
      subst (λ (m : PassMachine R W E). IsPassRecord kit l (announced_by w.collector) (cycle_of w.collector) w.space w.notices (in_machine p m)) start.idle own in
      let is : in_machine p to.0 ≡ q = ap (λ (r : PassRecord R W E). record p { pass = r }) to.2 ∙ sym start.is in
      subst (PassBegun kit l w.collector w.space w.notices p) is (record {
        number = same_number kit by laws l (announced_by w.collector) (cycle_of w.collector) w.space w.notices refl standing p idle start.request to.0 start.fits to.1 ∙ sym (idle_number start.idle);
        seen = refl;
        own = begun_record kit by laws l (announced_by w.collector) (cycle_of w.collector) w.space w.notices refl standing p idle start.request to.0 start.fits to.1;
        fixed = begun_fixed kit w.collector w.space w.notices by laws l p idle.answering.retired (λ i. (idle.registers i).0) (subst (λ (m : PassMachine R W E). IsFixedPass kit w.collector w.space w.notices (in_machine p m)) start.idle fixed) start.request to.0 start.fits to.1;
      })

  begins : (q : Party R W E M) → Begins kit l (party.Pass p) q → LawfulRecords kit l ws (q ∷ others)
  begins (party.Pass q) (inl takes) = assemble_begun kit l ws p q others w (takes_in q takes)
  begins (party.Pass q) (inr (inl put)) = assemble_begun kit l ws p q others w (puts q put)
  begins (party.Pass q) (inr (inr start)) = assemble_begun kit l ws p q others w (starts q start)
  begins (party.Collector q) begin = absurd begin

module _ {R W E M : Type 0} (kit : Kit R W E M) (by : Stepping R W E M) (laws : Laws kit by) (l : Sizes) (ws : List ℕ) (others : List (Party R W E M)) where
  begins_once : (r now : Party R W E M) → LawfulRecords kit l ws (r ∷ others) → Begins kit l r now → LawfulRecords kit l ws (now ∷ others)
  begins_once (party.Pass p) now w begin = begins kit by laws l ws p others w now begin
  begins_once (party.Collector q) now w begin = absurd begin

  -- one thing after another
  pub begins_on : (r now : Party R W E M) → LawfulRecords kit l ws (r ∷ others) → BeginsOn kit l r now → LawfulRecords kit l ws (now ∷ others)
  begins_on r now w chain = along (λ (x : Party R W E M). LawfulRecords kit l ws (x ∷ others)) begins_once w chain
