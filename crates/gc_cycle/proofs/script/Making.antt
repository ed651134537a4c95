-- What the step of the making of an object says of the command that asked for it.
use Rattle.std.specs.Prelude.{reverse, is_some, ◌==◌, if◌then◌else◌}
use Rattle.std.specs.Option.{option_map}
use Rattle.std.proofs.Common.{◌≡◌, ℕ, ◌<◌, ◌≤◌, Bool, true, false, List, [], ◌∷◌, ◌++◌, length, Option, Some, None, refl, sym, ap, ◌∙◌, subst, arith}
use Rattle.std.proofs.lemmas.List.{length-reverse}
use Rattle.heap_words.specs.Layouts.{Sizes, IsLayout, IsPass}
use Rattle.heap_words.specs.Packing.{packing}
use Rattle.object_headers.specs.declared.header.Header.{Header}
use Rattle.object_headers.specs.Headers.{IsHeader, header_at}
use Rattle.object_headers.specs.HeaderLaws.{header_at-word_of_header}
use Rattle.heap_history.specs.declared.call.Call.{Call}
use Rattle.heap_history.specs.declared.call.Call.TheVariants as calls
use Rattle.heap_history.specs.declared.call.Reply.TheVariants as replies
use Rattle.heap_history.specs.declared.call.Ended.{Ended}
use Rattle.heap_history.specs.Logs.{changes_of}
use Rattle.heap_script.specs.declared.script.Command.TheVariants as commands
use Rattle.space_reclaim.specs.declared.claim.Round.{Round}
use Rattle.space_reclaim.specs.declared.claim.ClaimMachine.TheVariants as claim
use Rattle.space_reclaim.specs.declared.claim.ClaimEnd.TheVariants as claim_end
use Rattle.space_reclaim.specs.Claims as claims
use Rattle.handshakes.specs.Handshakes.{Announced}
use Rattle.barriers.specs.declared.ends.NewEnd.TheVariants as new_end
use Rattle.barriers.specs.declared.ends.NewRefusal.TheVariants.{QuotaSpent, BirthsSpent}
use Rattle.barriers.specs.declared.machine_end.MachineEnd.{MachineEnd}
use Rattle.barriers.specs.declared.machine_end.MachineEnd.TheVariants as ends
use Rattle.barriers.specs.declared.new_object.NewMachine.{NewMachine}
use Rattle.barriers.specs.declared.new_object.NewMachine.TheVariants as make
use Rattle.barriers.specs.declared.new_object.NewPlan.{NewPlan}
use Rattle.barriers.specs.declared.new_object.Placement.{Placement}
use Rattle.barriers.specs.declared.pass.PassRecord.{PassRecord}
use Rattle.barriers.specs.declared.pass.PassMachine.TheVariants as machine
use Rattle.barriers.specs.Cycles.{Cycle}
use Rattle.barriers.specs.Spaces.{Space}
use Rattle.barriers.specs.Says.{Notices}
use Rattle.barriers.specs.Kits.{Kit, Stepping, Laws}
use Rattle.barriers.specs.NewObjects.{plan_of, next_birth, new_header}
use Rattle.barriers.specs.NewObjects as makes
use Rattle.lawful_records.specs.Turns.{change_by}
use Rattle.lawful_records.proofs.turns.NewTurns.{ClaimsFor}
use Rattle.gc_cycle.specs.Lawful.{IsMakingOf, IsNextObject}
use Rattle.gc_cycle.proofs.script.Ends.{EndSays, IsChange, lens_made}
use Rattle.gc_cycle.proofs.script.Machines.{StepSays, IsAfterStep, next}
use Rattle.gc_cycle.proofs.script.Said.{change_said}

-- what the header's word says
header_len : (l : Sizes) (pass made len : ℕ) (placement : Placement) → IsLayout l → IsPass l pass → made < 262144 → len ≤ 30 → IsNextObject pass made len placement
    → calls.NewObject pass placement.birth (let h = header_at placement.header in h.len) ≡ calls.NewObject pass placement.birth len
header_len l pass made len placement fits is few short is_next =
    let birth = next_birth pass made in
    let its : IsHeader (new_header len birth) = record { len = short; birth = omega (arith, few, is.1, fits.passes.1); target = omega arith; state = (omega arith, refl) } in
    let header : header_at placement.header ≡ new_header len birth = ap header_at is_next.1 ∙ header_at-word_of_header (new_header len birth) its in
    ap (λ (h : Header). calls.NewObject pass placement.birth h.len) header

module _ {R W E M : Type 0} (kit : Kit R W E M) (by : Stepping R W E M) (laws : Laws kit by) (l : Sizes) (a : Announced) (c : Cycle) (t : Space) (o : Notices) (log : List Ended) (hist : List Call) (hist_is : hist ≡ reverse (changes_of log))
    (p : PassRecord R W E) (seen mine : List Call) (es : List Ended) (count : p.seen ≡ length seen) (n : ℕ) (seal : Option (List Call)) (fits : IsLayout l) (in_layout : IsPass l (let view = p.view in view.pass)) (dst len : ℕ) (short : len ≤ 30) (few : p.made < 262144) where
  abbrev pass : ℕ
  pass = let view = p.view in view.pass

  abbrev Says : NewMachine → Type 0
  Says y = StepSays kit by laws l a c t o log hist hist_is p seen mine es count n seal (machine.New y) (Some (commands.New dst len))

  abbrev After : NewMachine → Type 0
  After y = IsAfterStep kit by laws l a c t o log hist hist_is p seen mine es count n seal (machine.New y)

  -- ---- a step that makes no object

  abbrev NeedsMore : Type 0
  NeedsMore = l.quota < packing (lens_made log pass ++ len ∷ [])

  -- the machine goes on, or it has ended since the pass's objects and this one need more regions than it has
  abbrev Onward : NewMachine → Type 0
  Onward (make.Ended (new_end.Refused (QuotaSpent regions))) = NeedsMore
  Onward m = IsMakingOf l pass p.room p.made len m

  onward_goes : (m : NewMachine) → Onward m → makes.end_of m ≡ None → IsMakingOf l pass p.room p.made len m
  onward_goes (make.Ended end) onward none = absurd cc
  onward_goes (make.Look plan round) onward none = onward
  onward_goes (make.Claim plan round) onward none = onward
  onward_goes (make.Fill at placement) onward none = onward
  onward_goes (make.Header placement) onward none = onward

  onward_ends : (q : PassRecord R W E) → q.view ≡ p.view → (m : NewMachine) → Onward m → (end : MachineEnd) → option_map (λ e. ends.New e) (makes.end_of m) ≡ Some end → EndSays l log q (commands.New dst len) end false
  onward_ends q same (make.Ended (new_end.Refused (QuotaSpent regions))) onward end over =
      let end_is : ends.New (new_end.Refused (QuotaSpent regions)) ≡ end = cc in
      subst (λ (x : MachineEnd). EndSays l log q (commands.New dst len) x false) end_is (rw same onward, refl)
  onward_ends q same (make.Ended (new_end.Refused BirthsSpent)) onward end over = absurd onward
  onward_ends q same (make.Ended (new_end.Made birth at room)) onward end over = absurd onward
  onward_ends q same (make.Look plan round) onward end over = absurd cc
  onward_ends q same (make.Claim plan round) onward end over = absurd cc
  onward_ends q same (make.Fill at placement) onward end over = absurd cc
  onward_ends q same (make.Header placement) onward end over = absurd cc

  unmapped : (m : NewMachine) → option_map (λ e. ends.New e) (makes.end_of m) ≡ None → makes.end_of m ≡ None
  unmapped (make.Ended end) none = absurd cc
  unmapped (make.Look plan round) none = refl
  unmapped (make.Claim plan round) none = refl
  unmapped (make.Fill at placement) none = refl
  unmapped (make.Header placement) none = refl

  goes_on : (y : NewMachine) → Onward (makes.fed_of y n) → is_some (change_by kit by (machine.New y) pass n) ≡ false → Says y
  goes_on y onward quiet = record {
    goes = λ none. (onward_goes (makes.fed_of y n) onward (unmapped (makes.fed_of y n) none), quiet);
    ends = λ end over. rw quiet (onward_ends (next kit by laws l a c t o log hist hist_is p seen mine es count n seal (machine.New y)) refl (makes.fed_of y n) onward end over);
  }

  -- ---- the claim of a region

  abbrev IsPlan : NewPlan → Type 0
  IsPlan plan = plan ≡ plan_of l pass p.made len (let room = p.room in room.region)

  -- none is free
  looks_past : (plan : NewPlan) (round : Round) (none : Bool) → IsPlan plan → NeedsMore → Onward (makes.claimed plan (if none then claim.Ended (claim_end.NoneFree round.regions) else claim.Look (claims.next_round round)))
  looks_past plan round true at more = more
  looks_past plan round false at more = at

  tries_past : (plan : NewPlan) (round : Round) (none : Bool) → IsPlan plan → NeedsMore → Onward (makes.claimed plan (if none then claim.Ended (claim_end.NoneFree round.regions) else claim.Claim (claims.next_round round)))
  tries_past plan round true at more = more
  tries_past plan round false at more = at

  looks : (plan : NewPlan) (round : Round) (free : Bool) → IsPlan plan → (free ≡ false → NeedsMore) → Onward (makes.claimed plan (if free then claim.Claim round else claims.passed_by claim.Look round))
  looks plan round true at more = at
  looks plan round false at more = looks_past plan round (round.ahead == 0) at (more refl)

  -- the region is the pass's, and the one that it leaves, if there is any, is filled first
  leaves : (old : Option ℕ) (placement : Placement) → IsNextObject pass p.made len placement → Onward (makes.leaving_at old placement)
  leaves None placement is = is
  leaves (Some at) placement is = is

  tries : (plan : NewPlan) (round : Round) (free : Bool) → IsPlan plan → (free ≡ false → NeedsMore)
      → Onward (makes.claimed plan (if free then claim.Ended (claim_end.Claimed (claims.region_of round)) else claims.passed_by claim.Claim round))
  tries plan round true at more = leaves plan.old_at (makes.placed_in plan (claims.region_of round)) (ap (λ (q : NewPlan). q.birth) at, ap (λ (q : NewPlan). q.header) at)
  tries plan round false at more = tries_past plan round (round.ahead == 0) at (more refl)

  -- ---- the object

  -- the store of the header makes the object
  header_says : (placement : Placement) → IsNextObject pass p.made len placement → After (make.Header placement) → Says (make.Header placement)
  header_says placement at is =
      let own = is.own in
      let told = own.told in
      let call : Call = calls.NewObject pass placement.birth (let h = header_at placement.header in h.len) in
      let e : Ended = record { call = call; reply = replies.Made; front = length (call ∷ hist) } in
      let many : length hist ≡ length (changes_of log) = ap length hist_is ∙ length-reverse (changes_of log) in
      let here : t.history ≡ call ∷ reverse (changes_of log) = is.history ∙ ap (λ (h : List Call). call ∷ h) hist_is in
      let made : IsChange log call replies.Made = change_said log t.history call pass es e here told.ended refl (omega (arith, many)) in
      let len_is = header_len l pass p.made len placement fits in_layout few short at in
      let q = next kit by laws l a c t o log hist hist_is p seen mine es count n seal (machine.New (make.Header placement)) in
      let said : EndSays l log q (commands.New dst len) (ends.New (new_end.Made placement.birth placement.at placement.room)) true = (at.0, subst (λ (x : Call). IsChange log x replies.Made) len_is made, refl) in
      record {
        goes = λ none. absurd cc;
        ends = λ end over.
            let end_is : ends.New (new_end.Made placement.birth placement.at placement.room) ≡ end = cc in
            subst (λ (x : MachineEnd). EndSays l log q (commands.New dst len) x true) end_is said;
      }

  pub new_says : (y : NewMachine) → IsMakingOf l pass p.room p.made len y → (ClaimsFor y len → (n == 0) ≡ false → NeedsMore) → After y → Says y
  new_says (make.Look plan round) at more is = goes_on (make.Look plan round) (looks plan round (n == 0) at (more (ap (λ (q : NewPlan). q.words) at))) refl
  new_says (make.Claim plan round) at more is = goes_on (make.Claim plan round) (tries plan round (n == 0) at (more (ap (λ (q : NewPlan). q.words) at))) refl
  new_says (make.Fill address placement) at more is = goes_on (make.Fill address placement) at refl
  new_says (make.Header placement) at more is = header_says placement at is
  new_says (make.Ended end) at more is = absurd at
