-- The turn of a pass that stores the header of a new object.
use Rattle.std.proofs.Common.{◌≡◌, ◌≢◌, ℕ, ◌+◌, ◌≤◌, inl, inr, List, ◌∷◌, length, Some, None, refl, sym, ap, ◌∙◌, subst, arith}
use Rattle.call_steps.specs.declared.step.Step.TheVariants.{Ended}
use Rattle.call_steps.specs.Steps.{IsInside}
use Rattle.call_steps.specs.StepLaws.{reading, Put}
use Rattle.heap_words.specs.Layouts.{Sizes, IsPass, IsRegion, words_of, first_word}
use Rattle.object_headers.specs.declared.header.Header.{Header}
use Rattle.object_headers.specs.declared.header.Colour.TheVariants.{Even}
use Rattle.object_headers.specs.Headers.{IsHeader, header_at}
use Rattle.object_headers.specs.HeaderLaws.{header_at-word_of_header}
use Rattle.space_reclaim.specs.OwnRegions.{IsOwn}
use Rattle.heap_history.specs.FixedHeaps.{answer}
use Rattle.heap_history.specs.NewestFirst.{heap_of_history}
use Rattle.heap_history.specs.declared.call.Call.{Call}
use Rattle.heap_history.specs.declared.call.Call.TheVariants.{NewObject}
use Rattle.heap_history.specs.declared.call.Ended.{Ended as EndedCall}
use Rattle.heap_history.specs.declared.call.Reply.TheVariants.{Made}
use Rattle.handshakes.specs.Handshakes.{Announced}
use Rattle.handshakes.specs.Polling.{held_in}
use Rattle.barriers.specs.declared.ends.NewEnd.TheVariants as new_end
use Rattle.barriers.specs.declared.new_object.Placement.{Placement}
use Rattle.barriers.specs.declared.new_object.NewMachine.TheVariants as make
use Rattle.barriers.specs.declared.room.Room.{Room}
use Rattle.barriers.specs.NewObjects.{new_header, next_birth, placed}
use Rattle.barriers.specs.NewObjects as makes
use Rattle.barriers.specs.States.{Absent, Plain}
use Rattle.barriers.specs.Spaces.{Space, Holds}
use Rattle.space_reclaim.specs.declared.move_job.MoveJob.{MoveJob}
use Rattle.barriers.specs.Rows.{region_of}
use Rattle.barriers.specs.Says.{Notices, CanAppend, head_word}
use Rattle.barriers.specs.Cycles.{Cycle}
use Rattle.barriers.specs.Objects.{IsSide}
use Rattle.barriers.specs.Kits.{Kit, Stepping, Laws}
use Rattle.barriers.proofs.words.Made.{absent_before, rows_made, says_made}
use Rattle.barriers.proofs.words.SpareCalls.{spare_made}
use Rattle.barriers.proofs.objects.Made.{made_leaves_move}
use Rattle.barriers.proofs.words.Regions.{region_is}
use Rattle.barriers.proofs.words.Sets.{set_cases, set_here, set_else}
use Rattle.lawful_records.specs.Frames.{SeenBy, Beside, SameRegion, Left, Same, Born, Leaves}
use Rattle.lawful_records.specs.LawfulRecords.{IsPassRecord}
use Rattle.lawful_records.specs.Making.{IsPlaced, IsRoom, IsInOrder, lens_of}
use Rattle.lawful_records.specs.Records.{side_of}
use Rattle.lawful_records.specs.PassTurns.{PassStands, HasTurn, in_machine}
use Rattle.barriers.specs.declared.pass.PassMachine.TheVariants as machine
use Rattle.lawful_records.specs.declared.records.PassKnown.{PassKnown}
use Rattle.lawful_records.proofs.frames.Machines.{good_stays}
use Rattle.lawful_records.proofs.frames.Regions.{own_apart}
use Rattle.lawful_records.proofs.frames.SearchStays.{search_append, fields_append}
use Rattle.lawful_records.proofs.telling.Meeting.{named_later}
use Rattle.lawful_records.proofs.telling.Telling.{told_change}
use Rattle.lawful_records.proofs.turns.Births.{birth_fits, answered_made, change_fits, there_then, unborn_then}
use Rattle.lawful_records.proofs.turns.Holding.{PassHolds, side_at, record_of}
use Rattle.lawful_records.proofs.turns.Making.{with_new, new_objects, new_lens, new_seen}
use Rattle.lawful_records.proofs.turns.Resting.{PassRests, quiet_new, rests_of}
use Rattle.lawful_records.proofs.parties.Pasts.{looks_not}
use Rattle.lawful_records.proofs.turns.Stepping.{next, own_there, put_alike, puts}

module _ {R W E M : Type 0} (kit : Kit R W E M) (by : Stepping R W E M) (laws : Laws kit by) (l : Sizes) (a : Announced) (c : Cycle) (s : Space) (n : Notices) (p : PassKnown R W E) (words : List ℕ)
    (placement : Placement) (stands : PassStands kit by l a c s n (in_machine p (machine.New (make.Header placement))) words) where
  abbrev pass : ℕ
  pass = p.pass.view.pass

  abbrev is : IsPlaced l s pass p.pass.made (lens_of p.mine) placement
  is = stands.own.machine

  -- the object, and the region that it is in
  abbrev birth : ℕ
  birth = next_birth pass p.pass.made

  abbrev len : ℕ
  len = is.len

  abbrev k : ℕ
  k = is.region

  abbrev plain : Placement
  plain = placed birth len k (first_word l k) is.used is.last

  there : IsRegion l k
  there = own_there l pass k stands.layout stands.own.number is.room.own

  pub header_inside : IsInside (words_of l) (makes.asks_of (make.Header placement))
  header_inside =
      let at : placement.at ≡ first_word l k + is.used = ap (λ (q : Placement). q.at) is.is in
      omega (arith, at, there, is.fits)

  -- ---- the space

  can : CanAppend l s k len birth
  can = record {
    region = there;
    taken = λ free. absurd (let taken = is.room.taken in cc);
    short = is.short;
    room = omega (arith, is.room.ends, is.fits);
    birth_fits = birth_fits l pass p.pass.made stands.layout stands.own.number is.few;
  }

  rests : PassRests kit l a c s n p
  rests = rests_of kit l a c s n p (machine.New (make.Header placement)) (quiet_new kit p (make.Header placement) tt) stands.own

  abbrev call : Call
  call = NewObject pass birth len

  made : answer (heap_of_history s.history) call ≡ Made
  made = answered_made kit s.history pass p.pass.made len is.few rests.unborn

  pub absent : s.state (s.ends k) ≡ Absent
  absent = absent_before l s stands.rows k len birth can

  abbrev t : Space
  t = with_new s k len birth pass

  seen : SeenBy kit.protocol c s t
  seen = new_seen kit.protocol laws.table c s stands.objects stands.lens k len birth pass absent made

  -- it begins in the pass's own region
  own_region : l.pool ≤ region_of l (s.ends k)
  own_region =
      let low = stands.rows.least k in
      let room = can.room in
      let same : region_of l (s.ends k) ≡ k = region_is l (s.ends k) k low (omega (arith, room)) in
      let own = is.room.own in
      omega (arith, same, own.0)

  left : (at : ℕ) → Left kit.protocol l s t at
  left at = elim (set_cases s.state (s.ends k) at Plain) [
    | inl here ↦ Born (ap s.state here.0 ∙ absent) here.1 (ap t.seal here.0 ∙ set_here s.seal (s.ends k) None) (ap t.wide here.0 ∙ set_here s.wide (s.ends k) 0) (subst (λ a. l.pool ≤ region_of l a) (sym here.0) own_region)
    | inr there ↦ Same (record {
      state = there.1;
      seal = set_else s.seal (s.ends k) at None there.0;
      wide = set_else s.wide (s.ends k) at 0 there.0;
      head = λ is. (set_else s.birth (s.ends k) at birth there.0, set_else s.len (s.ends k) at len there.0, set_else s.colour (s.ends k) at Even there.0);
    })
  ]

  leaves : Leaves kit.protocol l c s t
  leaves = record {
    left = left;
    address = λ at. refl;
    pool = λ region low. record { word = refl; ends = set_else s.ends k region (s.ends k + 1 + len) (λ same. (let own = is.room.own in omega (arith, same, low, own.0))) };
    moves = λ m j job absent_on move. made_leaves_move kit.protocol laws.table c s stands.objects stands.lens k len birth Even pass absent made m j job move (λ same. absent_at j same absent_on);
  }
    where
      absent_at : (j : MoveJob) → s.ends k ≡ j.to → (s.state j.to ≡ Absent → t.state j.to ≡ Absent) → ⊥
      absent_at j same on =
          let plain : t.state j.to ≡ Plain = ap t.state (sym same) ∙ set_here s.state (s.ends k) Plain in
          cc (plain, on (ap s.state (sym same) ∙ absent))

  -- ---- the pass

  abbrev room_then : Room
  room_then = record { region = Some k; used = is.used + len + 1; last = is.last }

  -- packing has the object there
  order_then : IsInOrder l t pass room_then (lens_of (call ∷ p.mine))
  order_then few = let was = subst (λ (q : Placement). IsInOrder l s pass q.room (lens_of (call ∷ p.mine))) is.is is.order few in record { region = was.region; last = was.last; used = was.used; free = was.free }

  room_is : IsRoom l t pass room_then (lens_of (call ∷ p.mine))
  room_is = record {
    region = record { own = is.room.own; taken = is.room.taken; ends = set_here s.ends k (s.ends k + 1 + len) ∙ omega (arith, is.room.ends); few = is.fits };
    used = is.fits;
    last = is.last_own;
    order = order_then;
  }

  side : IsSide kit.protocol c t (side_at kit p.pass.view (call ∷ s.history))
  side = let was = rests.holds.side in record {
    fits = λ runs. laws.table.turns.fits_seen c (side_at kit p.pass.view p.seen) (call ∷ s.history) (was.fits runs);
    past = inl refl;
    number = was.number;
  }

  holds : PassHolds kit l a c t n p.pass.view p.pass.registers (call ∷ s.history)
  holds = let was = rests.holds in record {
    number = was.number;
    side = side;
    acked = was.acked;
    answers = was.answers;
    phase = was.phase;
    marked = was.marked;
    shaken = λ runs. (let shaken = was.shaken runs in record { told = shaken.told; own = shaken.own; clear = shaken.clear });
    eight = was.eight;
    good = λ i. good_stays s t (held_in p.pass.registers i) seen.holds (was.good i);
    named = λ i. named_later p.seen (call ∷ s.history) (held_in p.pass.registers i) (inr was.side.past) (was.named i);
  }

  -- the pass that has made the object of a placement, by this change
  abbrev made_by : Call → Placement → PassKnown R W E
  made_by change q = record p {
    pass = record p.pass { machine = machine.New (make.Ended (new_end.Made q.birth q.at q.room)); seen = length (change ∷ s.history) };
    seen = change ∷ s.history;
    mine = change ∷ p.mine;
  }

  holds_new : Holds t birth (first_word l k + is.used)
  holds_new = subst (Holds t birth) is.room.ends (set_here s.birth (s.ends k) birth, rw (set_here s.state (s.ends k) Plain) tt)

  abbrev ended : EndedCall
  ended = record { call = call; reply = Made; front = length (call ∷ s.history) }

  own_plain : IsPassRecord kit l a c t n (made_by call plain)
  own_plain = record_of kit l a c t n (made_by call plain) holds (record {
    retired = rests.runs;
    room = λ has. room_is;
    few = omega (arith, is.few);
    unborn = unborn_then kit s.history pass p.pass.made len is.few rests.unborn;
    machine = holds_new;
    told = told_change kit s.history call (in_machine p machine.Idle) (made_by call plain) ended
        (record { number = refl; mine = refl; ended = refl; count = refl; seen = refl; own = refl }) refl refl refl
        (record { front = omega arith; change = refl; said = made }) rests.told;
    call = tt;
    made = (len, there_then kit s.history pass p.pass.made len is.few rests.unborn);
  })

  -- ---- the change that its store is

  abbrev change : Call
  change = NewObject pass placement.birth (let header = header_at placement.header in header.len)

  change_is : change ≡ call
  change_is =
      let fits : IsHeader (new_header len birth) = record { len = is.short; birth = can.birth_fits.1; target = omega arith; state = (can.birth_fits.0, refl) } in
      let header : header_at placement.header ≡ new_header len birth = ap (λ (q : Placement). header_at q.header) is.is ∙ header_at-word_of_header (new_header len birth) fits in
      ap (λ (q : Placement). NewObject pass q.birth (let header = header_at placement.header in header.len)) is.is ∙ ap (λ (h : Header). NewObject pass birth h.len) header

  own_is : IsPassRecord kit l a c t n (made_by change placement)
  own_is = subst (λ (x : Call). IsPassRecord kit l a c t n (made_by x placement)) (sym change_is)
      (subst (λ (q : Placement). IsPassRecord kit l a c t n (made_by call q)) (sym is.is) own_plain)

  others_regions : (other region : ℕ) → IsPass l other → other ≢ pass → IsOwn l other region → SameRegion s t region
  others_regions other region its apart own =
      record { word = refl; ends = set_else s.ends k region (s.ends k + 1 + len) (λ same. apart (own_apart l other pass k stands.layout its stands.own.number (subst (IsOwn l other) same own) is.room.own)) }

  beside : Beside kit l c pass s t n n
  beside = record {
    seen = seen;
    acks = λ other apart. refl;
    roots = λ other reg apart. refl;
    phase = refl;
    mark = refl;
    regions = others_regions;
    history = inr (record { call = call; by = refl; fits = change_fits kit s.history pass p.pass.made len is.few rests.unborn; is = refl });
  }

  module _ (on : makes.asks_of (make.Header placement) ≢ Ended) where
    abbrev storing : PassKnown R W E
    storing = in_machine p (machine.New (make.Header placement))

    stored : Put (reading words) (next kit by l a c s n storing words stands on header_inside) (s.ends k) (head_word Plain Even len birth)
    stored = put_alike (reading words) (next kit by l a c s n storing words stands on header_inside) placement.at placement.header (s.ends k) (head_word Plain Even len birth)
        (ap (λ (q : Placement). q.at) is.is ∙ sym is.room.ends) (ap (λ (q : Placement). q.header) is.is) (puts kit by l a c s n storing words stands on header_inside)

    pub header_turn : HasTurn kit by l a c s n storing words
    header_turn = record {
      space = t;
      notices = n;
      turn = record {
        says = says_made l s stands.rows k len birth can Even call (reading words) (next kit by l a c s n storing words stands on header_inside) n stands.says stored;
        spare = spare_made l (reading words) (next kit by l a c s n storing words stands on header_inside) s n stands.rows stands.says stands.spare k len birth Even call can (stands.bare (s.ends k) absent) stored;
        rows = rows_made l s stands.rows k len birth can Even call;
        objects = new_objects kit.protocol laws.table c s stands.objects stands.lens k len birth pass absent made;
        lens = new_lens kit.protocol laws.table c s stands.objects stands.lens k len birth pass absent made;
        beside = beside;
        leaves = leaves;
        search = search_append kit.kind c (side_of kit storing) s k len birth Even call stands.announcement.zero;
        fields = fields_append None s k len birth Even call;
        history = ap (λ (x : Call). x ∷ s.history) (sym change_is);
        number = refl;
        looks = looks_not None s.history p.seen stands.own.side.past;
        own = own_is;
      };
    }
