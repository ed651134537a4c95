-- The turn of a pass that makes an object.
use Rattle.std.proofs.Common.{◌≡◌, ◌≢◌, ℕ, ◌+◌, ◌<◌, ◌==◌, inl, inr, Bool, true, false, List, [], ◌∷◌, ◌++◌, Option, Some, None, if◌then◌else◌, refl, sym, ap, ◌∙◌, subst, arith}
use prog.Atomic.{either}
use Rattle.std.specs.Prelude.{slice_index}
use Rattle.std.proofs.lemmas.Bool.Decides.{eqb_tells, nat_tests}
use Rattle.call_steps.specs.declared.step.Step.TheVariants.{Ended}
use Rattle.call_steps.specs.Steps.{IsInside, place_of}
use Rattle.call_steps.specs.StepLaws.{reading, Put}
use Rattle.heap_words.specs.Layouts.{Sizes, IsRegion, words_of, region_at}
use Rattle.heap_words.specs.Packing.{packing}
use Rattle.handshakes.specs.Handshakes.{Announced}
use Rattle.space_reclaim.specs.declared.claim.Round.{Round}
use Rattle.space_reclaim.specs.declared.claim.ClaimMachine.TheVariants as claim
use Rattle.space_reclaim.specs.declared.claim.ClaimEnd.TheVariants as claim_end
use Rattle.space_reclaim.specs.declared.region_word.RegionWord.TheVariants.{Free, Taken, Filled}
use Rattle.space_reclaim.specs.RegionWords.{word_of_region}
use Rattle.space_reclaim.specs.Claims as claims
use Rattle.barriers.specs.declared.new_object.NewPlan.{NewPlan}
use Rattle.barriers.specs.declared.new_object.Placement.{Placement}
use Rattle.barriers.specs.declared.new_object.NewMachine.{NewMachine}
use Rattle.barriers.specs.declared.new_object.NewMachine.TheVariants as make
use Rattle.barriers.specs.NewObjects as makes
use Rattle.barriers.specs.Spaces.{Space}
use Rattle.barriers.specs.Says.{Notices, Says, put_region}
use Rattle.barriers.specs.Cycles.{Cycle}
use Rattle.barriers.specs.Kits.{Kit, Stepping, Laws}
use Rattle.barriers.proofs.words.RegionStores.{says_region, says_claimed, found_free}
use Rattle.lawful_records.specs.LawfulRecords.{IsPassRecord}
use Rattle.lawful_records.specs.Making.{IsRoom, IsMaking, IsClaiming, has_room, lens_of}
use Rattle.lawful_records.specs.PassTurns.{PassStands, HasTurn, in_machine}
use Rattle.barriers.specs.declared.pass.PassMachine.TheVariants as machine
use Rattle.lawful_records.specs.declared.records.PassKnown.{PassKnown}
use Rattle.lawful_records.proofs.frames.SpareStays.{region_low, spare_low}
use Rattle.lawful_records.proofs.turns.Claiming.{free_next, looked, tries_on, won, filled}
use Rattle.lawful_records.proofs.turns.Ordering.{needs_more}
use Rattle.lawful_records.proofs.turns.HeaderTurns.{header_inside, header_turn}
use Rattle.lawful_records.proofs.turns.Resting.{PassRests, IsMakingYet, goes_to, quiet_new, rests_of, room_of, record_rests, rests_region}
use Rattle.lawful_records.proofs.parties.Pasts.{looks_not}
use Rattle.lawful_records.proofs.turns.Stepping.{next, own_there, put_alike, exchange_alike, puts, load_turn, region_turn}

-- it claims a region for an object of so many fields
abbrev pub ClaimsFor : NewMachine → ℕ → Type 0
ClaimsFor (make.Look plan r) len = plan.words ≡ len + 1
ClaimsFor (make.Claim plan r) len = plan.words ≡ len + 1
ClaimsFor m len = ⊥

free_word : word_of_region Free ≡ 0
unfolding word_of_region
free_word = refl

module _ {R W E M : Type 0} (kit : Kit R W E M) (by : Stepping R W E M) (laws : Laws kit by) (l : Sizes) (a : Announced) (c : Cycle) (s : Space) (n : Notices) (p : PassKnown R W E) (words : List ℕ) where
  abbrev Stands : NewMachine → Type 0
  Stands m = PassStands kit by l a c s n (in_machine p (machine.New m)) words

  abbrev pass : ℕ
  pass = p.pass.view.pass

  abbrev Making : Space → NewMachine → Type 0
  Making t m = IsMaking l t pass p.pass.room p.pass.made (lens_of p.mine) m

  pub new_inside : (m : NewMachine) → Stands m → IsInside (words_of l) (makes.asks_of m)
  new_inside (make.Look plan r) stands =
      let is = stands.own.machine.round_is in
      let there : IsRegion l is.region = own_there l pass is.region stands.layout stands.own.number is.own in
      omega (arith, is.at, there)
  new_inside (make.Claim plan r) stands =
      let is = stands.own.machine.round_is in
      let there : IsRegion l is.region = own_there l pass is.region stands.layout stands.own.number is.own in
      omega (arith, is.at, there)
  new_inside (make.Fill at placement) stands =
      let left = stands.own.machine.1 in
      let there : IsRegion l left.old = own_there l pass left.old stands.layout stands.own.number left.own in
      omega (arith, left.at_is, there)
  new_inside (make.Header placement) stands = header_inside kit by laws l a c s n p words placement stands
  new_inside (make.Ended end) stands = tt

  -- ---- what is found in the word of a region

  -- a word other than 0 is not that of a free region
  module _ (r : Round) (k : ℕ) (at : r.at ≡ region_at l k) (there : IsRegion l k) (says : Says l (reading words) s n) where
    found_in_use : (slice_index words r.at == 0) ≡ false → s.region k ≢ Free
    found_in_use other free =
        let zero : slice_index words r.at ≡ 0 = ap (reading words) at ∙ says.regions.word k there ∙ ap word_of_region free ∙ free_word in
        let same : (slice_index words r.at == 0) ≡ true = grind (arith, nat_tests) in
        cc

  -- where a claim finds a region in use, all the pass's own are needed
  module _ (m : NewMachine) (plan : NewPlan) (r : Round) (stands : Stands m) (is : IsClaiming l pass p.pass.room p.pass.made (lens_of p.mine) plan r) (room_is : IsRoom l s pass p.pass.room (lens_of p.mine)) where
    all_needed : (slice_index words r.at == 0) ≡ false → packing (lens_of p.mine) < l.quota → ⊥
    all_needed other few =
        found_in_use r is.round_is.region is.round_is.at (own_there l pass is.round_is.region stands.layout stands.own.number is.round_is.own) stands.says other
        (free_next l s pass p.pass.room p.pass.made (lens_of p.mine) plan r stands.layout is room_is few)

    claim_needs_more : (slice_index words r.at == 0) ≡ false → l.quota < packing (lens_of p.mine ++ is.len ∷ [])
    claim_needs_more other = needs_more l s pass p.pass.room (lens_of p.mine) room_is.order is.len is.full (all_needed other)

  -- ---- a claim that goes on

  module _ (m : NewMachine) (yet : IsMakingYet m) (stands : Stands m) where
    rests : PassRests kit l a c s n p
    rests = rests_of kit l a c s n p (machine.New m) (quiet_new kit p m yet) stands.own

    room : has_room {R = R} {W = W} {E = E} (machine.New m) ≡ true → IsRoom l s pass p.pass.room (lens_of p.mine)
    room has = room_of kit l a c s n p (machine.New m) (quiet_new kit p m yet) stands.own has

    goes_on : has_room {R = R} {W = W} {E = E} (machine.New m) ≡ true → (k : NewMachine) → IsMakingYet k → Making s k → IsPassRecord kit l a c s n (goes_to kit p (machine.New k))
    goes_on has k still is = record_rests kit l a c s n p (machine.New k) (quiet_new kit p k still) rests (λ yes. room has) is

  passed_yet : (plan : NewPlan) (r : Round) (none : Bool) → IsMakingYet (makes.claimed plan (if none then claim.Ended (claim_end.NoneFree r.regions) else claim.Look (claims.next_round r)))
  passed_yet plan r true = tt
  passed_yet plan r false = tt

  looked_yet : (plan : NewPlan) (r : Round) (free : Bool) → IsMakingYet (makes.claimed plan (if free then claim.Claim r else claims.passed_by claim.Look r))
  looked_yet plan r true = tt
  looked_yet plan r false = passed_yet plan r (r.ahead == 0)

  tried_yet : (plan : NewPlan) (r : Round) (none : Bool) → IsMakingYet (makes.claimed plan (if none then claim.Ended (claim_end.NoneFree r.regions) else claim.Claim (claims.next_round r)))
  tried_yet plan r true = tt
  tried_yet plan r false = tt

  leaving_yet : (old : Option ℕ) (placement : Placement) → IsMakingYet (makes.leaving_at old placement)
  leaving_yet None placement = tt
  leaving_yet (Some at) placement = tt

  -- its room is none while the object is placed
  leaving_room : (old : Option ℕ) (placement : Placement) → has_room {R = R} {W = W} {E = E} (machine.New (makes.leaving_at old placement)) ≡ false
  leaving_room None placement = refl
  leaving_room (Some at) placement = refl

  module _ (plan : NewPlan) (r : Round) (stands : Stands (make.Look plan r)) (on : makes.asks_of (make.Look plan r) ≢ Ended) where
    abbrev word : ℕ
    word = slice_index words r.at

    look_turn : HasTurn kit by l a c s n (in_machine p (machine.New (make.Look plan r))) words
    look_turn = load_turn kit by l a c s n (in_machine p (machine.New (make.Look plan r))) words stands on (new_inside (make.Look plan r) stands) refl (looks_not None s.history p.seen stands.own.side.past) refl refl
        (goes_on (make.Look plan r) tt stands refl (makes.fed_of (make.Look plan r) word) (looked_yet plan r (word == 0)) (looked l s pass p.pass.room p.pass.made (lens_of p.mine) plan r stands.layout stands.own.machine (word == 0) (all_needed (make.Look plan r) plan r stands stands.own.machine (room (make.Look plan r) tt stands refl))))

  -- ---- the exchange of a region's word

  module _ (plan : NewPlan) (r : Round) (stands : Stands (make.Claim plan r)) (on : makes.asks_of (make.Claim plan r) ≢ Ended) where
    abbrev claiming : PassKnown R W E
    claiming = in_machine p (machine.New (make.Claim plan r))

    abbrev is : IsClaiming l pass p.pass.room p.pass.made (lens_of p.mine) plan r
    is = stands.own.machine

    abbrev k : ℕ
    k = is.round_is.region

    there : IsRegion l k
    there = own_there l pass k stands.layout stands.own.number is.round_is.own

    abbrev seen : ℕ
    seen = slice_index words r.at

    inside : IsInside (words_of l) (makes.asks_of (make.Claim plan r))
    inside = new_inside (make.Claim plan r) stands

    exchanged : Put (reading words) (next kit by l a c s n claiming words stands on inside) (region_at l k) (either (reading words (region_at l k) == 0) (word_of_region (Taken pass)) (reading words (region_at l k)))
    exchanged = exchange_alike (reading words) (next kit by l a c s n claiming words stands on inside) r.at 0 r.taken (region_at l k) (word_of_region (Taken pass)) is.round_is.at is.round_is.taken
        (puts kit by l a c s n claiming words stands on inside)

    -- another word was there
    lost : (seen == 0) ≡ false → HasTurn kit by l a c s n claiming words
    lost e = load_turn kit by l a c s n claiming words stands on inside refl (looks_not None s.history p.seen stands.own.side.past) refl (ap (λ same. either same r.taken seen) e)
        (subst (λ (free : Bool). IsPassRecord kit l a c s n (goes_to kit p (machine.New (makes.claimed plan (if free then claim.Ended (claim_end.Claimed (claims.region_of r)) else claims.passed_by claim.Claim r))))) (sym e)
        (goes_on (make.Claim plan r) tt stands refl _ (tried_yet plan r (r.ahead == 0)) (tries_on l s pass p.pass.room p.pass.made (lens_of p.mine) plan r stands.layout is (all_needed (make.Claim plan r) plan r stands is (room (make.Claim plan r) tt stands refl) e) (r.ahead == 0))))

    -- the region is the pass's
    abbrev t : Space
    t = put_region s k (Taken pass)

    abbrev placing : NewMachine
    placing = makes.leaving_at plan.old_at (makes.placed_in plan (claims.region_of r))

    placing_own : s.region k ≡ Free → IsPassRecord kit l a c t n (goes_to kit p (machine.New placing))
    placing_own free = record_rests kit l a c t n p (machine.New placing) (quiet_new kit p placing (leaving_yet plan.old_at (makes.placed_in plan (claims.region_of r))))
        (rests_region kit l a c s n p k (Taken pass) (rests (make.Claim plan r) tt stands))
        (λ has. absurd (cc (has, leaving_room plan.old_at (makes.placed_in plan (claims.region_of r)))))
        (won l s pass p.pass.room p.pass.made (lens_of p.mine) plan r stands.layout is stands.rows stands.own.number (room (make.Claim plan r) tt stands refl) free)

    gained : (seen == 0) ≡ true → seen ≡ 0 → HasTurn kit by l a c s n claiming words
    gained e none =
        let zero : reading words (region_at l k) ≡ 0 = ap (reading words) (sym is.round_is.at) ∙ none in
        let free : s.region k ≡ Free = found_free l (reading words) s n stands.rows stands.says k there zero in
        let small : pass < 32 = omega (arith, stands.own.number.1, stands.layout.passes.1) in
        region_turn kit by l a c s n claiming words stands on inside refl (looks_not None s.history p.seen stands.own.side.past) refl k (Taken pass)
        (says_claimed l (reading words) s n stands.rows stands.says (next kit by l a c s n claiming words stands on inside) k pass there small exchanged zero)
        (spare_low l (reading words) (next kit by l a c s n claiming words stands on inside) s stands.spare (region_at l k) (either (reading words (region_at l k) == 0) (word_of_region (Taken pass)) (reading words (region_at l k))) exchanged (region_low l k there))
        (λ same. cc same) is.round_is.own
        (subst (λ (free : Bool). IsPassRecord kit l a c t n (goes_to kit p (machine.New (makes.claimed plan (if free then claim.Ended (claim_end.Claimed (claims.region_of r)) else claims.passed_by claim.Claim r))))) (sym e) (placing_own free))

    claim_turn : HasTurn kit by l a c s n claiming words
    claim_turn = elim (eqb_tells seen 0) [ inl w ↦ gained w.0 w.1 | inr w ↦ lost w.0 ]

  -- ---- the region that is left is filled

  module _ (at : ℕ) (placement : Placement) (stands : Stands (make.Fill at placement)) (on : makes.asks_of (make.Fill at placement) ≢ Ended) where
    abbrev filling : PassKnown R W E
    filling = in_machine p (machine.New (make.Fill at placement))

    abbrev old : ℕ
    old = stands.own.machine.1.old

    in_table : IsInside (words_of l) (makes.asks_of (make.Fill at placement))
    in_table = new_inside (make.Fill at placement) stands

    filled_own : IsPassRecord kit l a c (put_region s old Filled) n (goes_to kit p (machine.New (make.Header placement)))
    filled_own = record_rests kit l a c (put_region s old Filled) n p (machine.New (make.Header placement)) (quiet_new kit p (make.Header placement) tt)
        (rests_region kit l a c s n p old Filled (rests (make.Fill at placement) tt stands)) (λ has. absurd (cc has))
        (filled l s pass p.pass.made (lens_of p.mine) at p.pass.room placement stands.own.machine.0 stands.own.machine.1)

    stored : Put (reading words) (next kit by l a c s n filling words stands on in_table) (region_at l old) (word_of_region Filled)
    stored = put_alike (reading words) (next kit by l a c s n filling words stands on in_table) at (word_of_region Filled) (region_at l old) (word_of_region Filled) stands.own.machine.1.at_is refl
        (puts kit by l a c s n filling words stands on in_table)

    fill_turn : HasTurn kit by l a c s n filling words
    fill_turn = region_turn kit by l a c s n filling words stands on in_table refl (looks_not None s.history p.seen stands.own.side.past) refl old Filled
        (says_region l (reading words) s n stands.rows stands.says (next kit by l a c s n filling words stands on in_table) old Filled (own_there l pass old stands.layout stands.own.number stands.own.machine.1.own) tt stored)
        (spare_low l (reading words) (next kit by l a c s n filling words stands on in_table) s stands.spare (region_at l old) (word_of_region Filled) stored (region_low l old (own_there l pass old stands.layout stands.own.number stands.own.machine.1.own)))
        (λ same. cc same) stands.own.machine.1.own filled_own

  -- ---- where no region is free

  len_is : (plan : NewPlan) (r : Round) (is : IsClaiming l pass p.pass.room p.pass.made (lens_of p.mine) plan r) (len : ℕ) → plan.words ≡ len + 1 → is.len ≡ len
  len_is plan r is len words_are = let mine : plan.words ≡ is.len + 1 = ap (λ (q : NewPlan). q.words) is.plan_is in omega (arith, mine, words_are)

  abbrev NeedsMore : ℕ → Type 0
  NeedsMore len = l.quota < packing (lens_of p.mine ++ len ∷ [])

  -- a region is found in use only where the pass's objects and this one need more regions than it has
  pub new_needs_more : (m : NewMachine) → Stands m → (len : ℕ) → ClaimsFor m len → (slice_index words (place_of (makes.asks_of m)) == 0) ≡ false → NeedsMore len
  new_needs_more (make.Look plan r) stands len is_for other =
      let is = stands.own.machine in
      subst NeedsMore (len_is plan r is len is_for) (claim_needs_more (make.Look plan r) plan r stands is (room (make.Look plan r) tt stands refl) other)
  new_needs_more (make.Claim plan r) stands len is_for other =
      let is = stands.own.machine in
      subst NeedsMore (len_is plan r is len is_for) (claim_needs_more (make.Claim plan r) plan r stands is (room (make.Claim plan r) tt stands refl) other)
  new_needs_more (make.Fill at placement) stands len is_for other = absurd is_for
  new_needs_more (make.Header placement) stands len is_for other = absurd is_for
  new_needs_more (make.Ended end) stands len is_for other = absurd is_for

  pub new_turn : (m : NewMachine) → Stands m → makes.asks_of m ≢ Ended → HasTurn kit by l a c s n (in_machine p (machine.New m)) words
  new_turn (make.Look plan r) stands on = look_turn plan r stands on
  new_turn (make.Claim plan r) stands on = claim_turn plan r stands on
  new_turn (make.Fill at placement) stands on = fill_turn at placement stands on
  new_turn (make.Header placement) stands on = header_turn kit by laws l a c s n p words placement stands on
  new_turn (make.Ended end) stands on = absurd (on refl)
