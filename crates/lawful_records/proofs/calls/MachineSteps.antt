-- The step of a call's machine, of whatever kind it is.
use Rattle.std.proofs.Common.{inl, ◌≡◌, ◌≢◌, ℕ, List, Option, Some, refl, sym, ap, ◌∙◌, subst}
use Rattle.call_steps.specs.StepLaws.{Put}
use Rattle.call_steps.specs.Steps.{place_of, put_by, IsInside}
use Rattle.call_steps.specs.declared.step.Step.{Step}
use Rattle.call_steps.specs.declared.step.Step.TheVariants.{Ended}
use Rattle.heap_words.specs.Layouts.{Sizes, words_of}
use Rattle.heap_history.specs.declared.call.Call.{Call}
use Rattle.handshakes.specs.declared.follow.FollowMachine.{FollowMachine}
use Rattle.handshakes.specs.declared.follow.FollowMachine.TheVariants as follow
use Rattle.handshakes.specs.Follows as follows
use Rattle.lawful_records.specs.Frames.{KeepsFields}
use Rattle.handshakes.specs.declared.pass_view.PassView.{PassView}
use Rattle.barriers.specs.declared.front.Front.{Front}
use Rattle.barriers.specs.Spaces.{Space, here, copy_word}
use Rattle.barriers.specs.Says.{Notices}
use Rattle.barriers.specs.Cycles.{Cycle}
use Rattle.barriers.specs.Knowns.{Known, Follows, Over, Ending, at_field, spot_of, task_of, step_of, followed, writes_yet}
use Rattle.barriers.specs.Kits.{Kit, Runs, Stands, IsWordOf, IsCurrent, own_of}
use Rattle.barriers.specs.Accesses.{found_in, space_after}
use Rattle.barriers.specs.ProtocolLaws.{ProtocolLaws}
use Rattle.barriers.specs.CycleLaws.{MovingLaws}
use Rattle.lawful_records.specs.Turns.{change_call}
use Rattle.lawful_records.proofs.calls.CallSteps.{SameCall, CallStands, WentOn, Fed, Led, CallGoes}
use Rattle.lawful_records.proofs.calls.LinkSteps.{follow_goes}
use Rattle.lawful_records.proofs.calls.FieldSteps.{its_step_inside, its_word_found, its_current, field_keeps, field_goes}
use Rattle.lawful_records.proofs.telling.Replies.{EndsSo}
use Rattle.lawful_records.proofs.turns.Holding.{side_at}

-- a call is at a field, or follows a link, or is over
pub data Standing (k : Known) : Type 0 where
  At : at_field k ≡ Some (spot_of k) → Standing k
  Leads : (f : FollowMachine) → k ≡ Follows (spot_of k) (task_of k) f → Standing k
  Stops : step_of k ≡ Ended → Standing k

pub standing : (k : Known) → Standing k
standing (Follows s t f) = Leads f refl
standing (Over s t end) = Stops refl
standing k = At refl

module _ {R W E M K End : Type 0} (kit : Kit R W E M) (table : ProtocolLaws kit.protocol) (movable : MovingLaws kit.kind kit.protocol) (asks : K → Step) (fed : K → ℕ → K) (fronts : K → ℕ → Front) (knows : K → Known) (For : PassView → K → Type 0) (ended : K → Option End) (said : Ending → Option End)
    (runs : Runs kit.protocol (own_of kit.minds) asks fed fronts knows For ended said)
    (l : Sizes) (c : Cycle) (s : Space) (n : Notices) (memory : ℕ → ℕ) (v : PassView) (seen : List Call) (m : K) (own : For v m) (stands : CallStands kit l c s n memory v seen (knows m)) where
  pub machine_inside : IsInside (words_of l) (asks m)
  machine_inside = subst (IsInside (words_of l)) (sym (runs.asks_alike v m own)) (its_step_inside kit table movable l c s n memory v seen (knows m) stands)

  abbrev found : ℕ
  found = memory (place_of (asks m))

  -- what its step comes to, with this change
  pub record MachineGoes (after : ℕ → ℕ) (change : Option Call) : Type 0 where
    pub keeps : For v (fed m found)
    pub same : SameCall (knows m) (knows (fed m found))
    pub space : Space
    pub fields : KeepsFields (writes_yet (knows m)) s space
    pub went : WentOn kit c s memory v seen (knows m) (knows (fed m found))
    pub goes : CallGoes kit l c s space n after v seen change (fronts m found) (s.seal (let z = spot_of (knows m) in z.at)) (knows (fed m found))

  pub machine_goes : asks m ≢ Ended → (after : ℕ → ℕ) → Put memory after (place_of (asks m)) (put_by (asks m) found)
      → (change : Option Call) → (task_of (knows (fed m found)) ≡ task_of (knows m) → EndsSo (knows (fed m found)) → change ≡ change_call (knows (fed m found)) v.pass)
      → MachineGoes after change
  machine_goes on after put change change_is = by_standing (standing k)
    where
      k : Known
      k = knows m

      asks_is : asks m ≡ step_of k
      asks_is = runs.asks_alike v m own

      step_put : Put memory after (place_of (step_of k)) (put_by (step_of k) (memory (place_of (step_of k))))
      step_put = subst (λ (step : Step). Put memory after (place_of step) (put_by step (memory (place_of step)))) asks_is put

      word : IsWordOf k (found_in c s k) found
      word = subst (λ (step : Step). IsWordOf k (found_in c s k) (memory (place_of step))) (sym asks_is) (its_word_found kit table movable l c s n memory v seen k stands)

      at_its_field : at_field k ≡ Some (spot_of k) → MachineGoes after change
      at_its_field at =
          let stood : Stands knows For v m c.phase (here s (spot_of k).at (spot_of k).field) (copy_word s (spot_of k).at (spot_of k).field) found = record { own = own; spot = spot_of k; at = at; word = word; current = λ marked. subst (λ (step : Step). IsCurrent v k (memory (place_of step))) (sym asks_is) (its_current kit table movable l c s n memory v seen k stands marked) } in
          let on = runs.goes v m c.phase (here s (spot_of k).at (spot_of k).field) (copy_word s (spot_of k).at (spot_of k).field) found stood in
          let looks = runs.looks_alike v m c.phase (here s (spot_of k).at (spot_of k).field) (copy_word s (spot_of k).at (spot_of k).field) found stood in
          let gone = field_goes kit table movable l c s n memory v seen k stands (spot_of k) at after step_put (knows (fed m found)) on.0 change change_is (fronts m found) looks in
          record { keeps = on.1; same = gone.0; space = space_after c s (side_at kit v seen) k; fields = field_keeps kit table movable l c s n memory v seen k stands (spot_of k) at; went = Fed at on.0; goes = gone.1 }

      led_on : (f : FollowMachine) → k ≡ Follows (spot_of k) (task_of k) f → follows.asks_of f ≢ Ended → knows (fed m found) ≡ followed (spot_of k) (task_of k) (follows.fed_of f (memory (place_of (follows.asks_of f)))) → WentOn kit c s memory v seen k (knows (fed m found))
      led_on (follow.Header birth at) is on then_is = Led birth at is then_is
      led_on (follow.Ended end) is on then_is = absurd (on refl)

      leads : (f : FollowMachine) → k ≡ Follows (spot_of k) (task_of k) f → MachineGoes after change
      leads f is =
          let asked : asks m ≡ follows.asks_of f = asks_is ∙ ap step_of is in
          let on_link = runs.follows_on v m (spot_of k) (task_of k) f found own is in
          let runs_on : follows.asks_of f ≢ Ended = λ over. on (asked ∙ over) in
          let put_link : Put memory after (place_of (follows.asks_of f)) (put_by (follows.asks_of f) (memory (place_of (follows.asks_of f)))) =
          subst (λ (step : Step). Put memory after (place_of step) (put_by step (memory (place_of step)))) asked put in
          let fed_is : knows (fed m found) ≡ followed (spot_of k) (task_of k) (follows.fed_of f (memory (place_of (follows.asks_of f)))) =
          on_link.0 ∙ ap (λ (step : Step). followed (spot_of k) (task_of k) (follows.fed_of f (memory (place_of step)))) asked in
          let gone = follow_goes kit l c s n memory v seen (spot_of k) (task_of k) f (subst (CallStands kit l c s n memory v seen) is stands) runs_on after put_link (knows (fed m found)) fed_is change change_is (fronts m found) on_link.2 (s.seal (let z = spot_of k in z.at)) in
          record { keeps = on_link.1; same = subst (λ (x : Known). SameCall x (knows (fed m found))) (sym is) gone.0; space = s; fields = λ a f home less. inl (home, less, refl); went = led_on f is runs_on fed_is; goes = gone.1 }

      by_standing : Standing k → MachineGoes after change
      by_standing (At at) = at_its_field at
      by_standing (Leads f is) = leads f is
      by_standing (Stops over) = absurd (on (asks_is ∙ over))
