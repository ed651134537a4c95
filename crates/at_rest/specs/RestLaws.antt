-- The laws of objects at rest.
use Rattle.std.proofs.Common.{◌≡◌, ◌≢◌, ℕ, ◌<◌, ◌≤◌, refl, sym, ap, ◌∙◌, arith, true, false, Option, Some, None, List}
use Rattle.heap_words.specs.declared.field_word.FieldWord.{FieldWord}
use Rattle.object_headers.specs.declared.header.Header.{Header}
use Rattle.wide_objects.specs.Statuses.{InOriginal}
use Rattle.space_reclaim.specs.declared.move_job.MoveJob.{MoveJob}
use Rattle.heap_history.specs.NewestFirst.{value_at, Before}
use Rattle.heap_history.specs.NewestFirstLaws.{Before-refl}
use Rattle.heap_history.specs.declared.call.Call.{Call}
use Rattle.barriers.specs.declared.spot.Spot.{Spot}
use Rattle.barriers.specs.declared.front.Front.{Front}
use Rattle.barriers.specs.declared.front.Front.TheVariants.{Stays, Now, SealedOrNow}
use Rattle.barriers.specs.Spaces.{Here, zone, Copied, place_word}
use Rattle.barriers.specs.Values.{value_of}
use Rattle.barriers.specs.Cycles.{Cycle, Side, Phasing, phased}
use Rattle.barriers.specs.Knowns.{Task, Reads, Writes, Exchanges, Known, Loads_header, Keeps, Loads, Stores, Swaps, Follows, Over, Finds, Nothing, Header_word, Field_word, at_field, has_field, has_found, copy_of, wide_of, head_of, finds, puts, wanted, looks, front, sealed_or}
use Rattle.barriers.specs.Events.{Event, after, after_copy, May, Writable, Unmarked, put_event, event}
use Rattle.barriers.specs.Moves.{Carried, Idles, Looks, Lays, IsAtField, job_of, move_finds}
use Rattle.barriers.specs.Protocols.{Wants, Answered, seen_after}
use Rattle.barriers.specs.ProtocolLaws.{At, StepEnd, GoesTo, MoveEnd, IsFresh, Arrives, ProtocolLaws}
use Rattle.barriers.specs.PlainAnswerLaws.{Tells, look_of, original_answered, original_lacking, lacking_none, plainly_answered, plainly_wants, plainly_lacking, where_inside, where_found, original_found, where_refused}
use Rattle.barriers.specs.Stances.{Stance}
use Rattle.barriers.specs.CallCloses.{IsTasked, IsClosed, where_closed, original_closed, plainly_closed}
use Rattle.barriers.specs.PlainCallLaws.{spot_at, stays_goes, original_stays, plainly_goes, plainly_holds, where_goes, where_holds}
use Rattle.barriers.specs.PlainCalls.{no_field, to_original, plainly_fed}
use Rattle.at_rest.specs.RestTable.{rest_fed, IsAtRest, RestShape, RestOwn, RestHead, RestMakes, RestPhases, RestRight, at_rest}

-- ---- the steps of calls

rest_stays : (c : Cycle) (side : Side) (x : Here) (e : Event) (k : Known) → RestOwn c side x k → RestOwn c side (after e x) k
rest_stays c side x e k own = grind (arith, own)

rest_writable : (c : Cycle) (x : Here) → IsAtRest x.state → (v : FieldWord) → Writable c.told c.mark x.state x.word v
rest_writable c x s v = grind (arith, s)

unmarked : (c : Cycle) → c.clear ≡ false → (w : FieldWord) → Unmarked c w
unmarked c e w q = cc (e, q)

-- it loads the header, or is at the plain word
rest_goes : (c : Cycle) (side : Side) (x : Here) (k : Known) (s : Spot) (found : Finds) → at_field k ≡ Some s → RestOwn c side x k → GoesTo side.own k found (rest_fed side.acked side.own k found)
rest_goes c side x (Loads_header z t) s (Header_word y colour len) at own = where_goes side.own (Loads_header z t) (Header_word y colour len) z len (to_original z t) refl refl (original_stays (Loads_header z t) z t refl refl)
rest_goes c side x (Loads_header z t) s found at own = stays_goes side.own (Loads_header z t) found z refl refl
rest_goes c side x (Loads z t) s found at own = plainly_goes side.acked side.own (Loads z t) found tt
rest_goes c side x (Stores z word) s found at own = plainly_goes side.acked side.own (Stores z word) found tt
rest_goes c side x (Swaps z t v n) s found at own = plainly_goes side.acked side.own (Swaps z t v n) found tt
rest_goes c side x (Follows z t m) s found at own = absurd (let gone : None ≡ Some s = at in cc)
rest_goes c side x (Over z t end) s found at own = absurd (let gone : None ≡ Some s = at in cc)
rest_goes c side x k s found at own = absurd own

rest_closes : (acked : Stance) (own : Option FieldWord) (k : Known) (s : Spot) (found : Finds) → at_field k ≡ Some s → IsTasked k → IsClosed acked (rest_fed acked own k found)
rest_closes acked own (Loads_header z t) s (Header_word y colour len) at is = where_closed acked z t len (to_original z t) (original_closed acked z t)
rest_closes acked own k s found at is = plainly_closed acked k s found at is

rest_makes : (c : Cycle) (side : Side) (x : Here) (k : Known) (found : Finds) → RestOwn c side x k → RestMakes (event k found)
rest_makes c side x k found own = grind (arith, own)

rest_aim : (c : Cycle) (side : Side) (x : Here) (w : FieldWord) (k : Known) (t : ℕ) → RestOwn c side x k → copy_of k ≡ Some t → (t ≡ x.to) × (zone c.mark x.state x.word x.status ≡ Copied)
rest_aim c side x w k t own e = grind (arith, own, e)

rest_wide : (c : Cycle) (side : Side) (x : Here) (k : Known) (u : ℕ) → RestOwn c side x k → wide_of k ≡ Some u → ⊥
rest_wide c side x k u own e = grind (arith, own, e)

-- ---- what it has found out

rest_place : (mark : Option FieldWord) (x : Here) (w : FieldWord) → IsAtRest x.state → place_word mark x w ≡ x.word
rest_place mark x w i = grind (arith, i)

unsealed : (f : Front) (seal : Option (List Call)) (h seen : List Call) → seal ≡ None → f ≢ Stays → front f seal h seen ≡ h
unsealed Stays seal h seen none looks = absurd (looks refl)
unsealed Now seal h seen none looks = refl
unsealed SealedOrNow seal h seen none looks = rw none refl

look_now : (k : Known) → look_of k ≢ Stays
look_now (Loads s t) = λ e. cc e
look_now _ = λ e. cc e

module _ (c : Cycle) (side : Side) (h : List Call) (s : Spot) (x : Here) where
  rest_word : (k : Known) (w : FieldWord) → RestShape c s.birth s.field x w → value_of (place_word c.mark x w) ≡ value_at h s.birth s.field → value_of x.word ≡ value_at (front (look_of k) x.seal h side.seen) s.birth s.field
  rest_word k w shape agrees = ap value_of (sym (rest_place c.mark x w shape.state)) ∙ (agrees ∙ ap (λ g. value_at g s.birth s.field) (sym (unsealed (look_of k) x.seal h side.seen shape.seal (look_now k))))

  field_word : (x y v : FieldWord) → Field_word x ≡ Field_word v → value_of x ≡ value_of y → value_of v ≡ value_of y
  field_word x y v is same = let e : x ≡ v = cc in ap value_of (sym e) ∙ same

  rest_tells : (k : Known) (w : FieldWord) → RestOwn c side x k → (has_field k ≡ true → RestShape c s.birth s.field x w) → (has_field k ≡ true → value_of (place_word c.mark x w) ≡ value_at h s.birth s.field) → Tells h side x.seal s k (finds c.phase x w k)
  rest_tells (Loads_header z t) w own shape agrees v is = absurd cc
  rest_tells (Loads z t) w own shape agrees v is = let e : x.word ≡ v = cc in ap value_of (sym e) ∙ rest_word (Loads z t) w (shape refl) (agrees refl)
  rest_tells (Stores z word) w own shape agrees v is = absurd cc
  rest_tells (Swaps z t u n) w own shape agrees v is = let e : x.word ≡ v = cc in ap value_of (sym e) ∙ rest_word (Swaps z t u n) w (shape refl) (agrees refl)
  rest_tells (Follows z t m) w own shape agrees v is = absurd cc
  rest_tells (Over z t end) w own shape agrees v is = absurd cc
  rest_tells k w own shape agrees v is = absurd own

  rest_answered : (k : Known) (found : Finds) → at_field k ≡ Some s → RestOwn c side x k → Tells h side x.seal s k found → Answered side.seen k → Answered (seen_after (puts k found) side s k x found h) (rest_fed side.acked side.own k found)
  rest_answered (Loads_header z t) (Header_word y colour len) at own tells was = where_holds (Answered side.seen) z t len (to_original z t) (λ lt. original_answered z t side.seen) (λ le. tt)
  rest_answered (Loads_header z t) found at own tells was = tt
  rest_answered (Loads z t) found at own tells was = plainly_answered side.acked h side s x (Loads z t) found tt (spot_at (Loads z t) s at) tells was
  rest_answered (Stores z word) found at own tells was = plainly_answered side.acked h side s x (Stores z word) found tt (spot_at (Stores z word) s at) tells was
  rest_answered (Swaps z t u n) found at own tells was = plainly_answered side.acked h side s x (Swaps z t u n) found tt (spot_at (Swaps z t u n) s at) tells was
  rest_answered (Follows z t m) found at own tells was = absurd (let gone : None ≡ Some s = at in cc)
  rest_answered (Over z t end) found at own tells was = absurd (let gone : None ≡ Some s = at in cc)
  rest_answered k found at own tells was = absurd own

  rest_wants : (k : Known) (found : Finds) (v : FieldWord) → RestOwn c side x k → Tells h side x.seal s k found → Answered side.seen k → puts k found ≡ Some v → Wants (wanted k) (value_at h s.birth s.field)
  rest_wants (Swaps z t u n) found v own tells was put = plainly_wants side.acked h side s x (Swaps z t u n) found v tt tells was put
  rest_wants (Loads_header z t) found v own tells was put = tt
  rest_wants (Loads z t) found v own tells was put = tt
  rest_wants (Stores z word) found v own tells was put = tt
  rest_wants (Follows z t m) found v own tells was put = tt
  rest_wants (Over z t end) found v own tells was put = tt
  rest_wants k found v own tells was put = absurd own

  rest_own : (d : Side) (y : Here) (k : Known) (found : Finds) → RestOwn c side x k → RestOwn c d y (rest_fed side.acked side.own k found)
  rest_own d y (Loads_header z t) (Header_word u colour len) own = where_holds (RestOwn c d y) z t len (to_original z t) (λ lt. to_own t) (λ le. tt)
    where
      to_own : (t : Task) → RestOwn c d y (to_original z t)
      to_own Reads = tt
      to_own (Writes word) = tt
      to_own (Exchanges expected word) = tt
  rest_own d y (Loads_header z t) found own = tt
  rest_own d y (Loads z t) found own = plainly_holds (RestOwn c d y) side.acked (Loads z t) found tt tt (λ w n e. tt) (λ b a e. tt) (λ end. tt)
  rest_own d y (Stores z word) found own = tt
  rest_own d y (Swaps z t u n) found own = plainly_holds (RestOwn c d y) side.acked (Swaps z t u n) found tt tt (λ w n e. tt) (λ b a e. tt) (λ end. tt)
  rest_own d y (Follows z t m) found own = tt
  rest_own d y (Over z t end) found own = tt
  rest_own d y k found own = absurd own

  rest_inside : (w : FieldWord) (k : Known) → at_field k ≡ Some s → RestOwn c side x k → (has_field k ≡ true → s.field < x.len) → has_field (rest_fed side.acked side.own k (finds c.phase x w k)) ≡ true → s.field < x.len
  rest_inside w (Loads_header z t) at own inside = λ has. let lt : z.field < x.len = where_inside z t x.len (to_original z t) has in rw (spot_at (Loads_header z t) s at) at lt
  rest_inside w (Loads z t) at own inside = λ e. inside refl
  rest_inside w (Stores z word) at own inside = λ e. inside refl
  rest_inside w (Swaps z t u n) at own inside = λ e. inside refl
  rest_inside w (Follows z t m) at own inside = λ has. inside has
  rest_inside w (Over z t end) at own inside = λ has. inside has
  rest_inside w k at own inside = absurd own

  rest_found : (w : FieldWord) (k : Known) → at_field k ≡ Some s → RestOwn c side x k → (has_field k ≡ true → s.field < x.len) → has_found (rest_fed side.acked side.own k (finds c.phase x w k)) ≡ true → s.field < x.len
  rest_found w (Loads_header z t) at own inside = λ has. absurd (where_found z t x.len (to_original z t) (original_found z t) has)
  rest_found w (Loads z t) at own inside = λ has. inside refl
  rest_found w (Stores z word) at own inside = λ has. inside refl
  rest_found w (Swaps z t u n) at own inside = λ has. inside refl
  rest_found w (Follows z t m) at own inside = absurd (let gone : None ≡ Some s = at in cc)
  rest_found w (Over z t end) at own inside = absurd (let gone : None ≡ Some s = at in cc)
  rest_found w k at own inside = absurd own

  rest_refused : (w : FieldWord) (k : Known) (t : Task) (len : ℕ) → at_field k ≡ Some s → RestOwn c side x k → rest_fed side.acked side.own k (finds c.phase x w k) ≡ no_field s t len → (len ≡ x.len) × (x.len ≤ s.field)
  rest_refused w (Loads_header z u) t len at own = λ is. let short = where_refused z u x.len (to_original z u) s t len (original_lacking z u) is in (short.0, rw (spot_at (Loads_header z u) s at) at short.1)
  rest_refused w (Loads z u) t len at own = λ is. absurd (lacking_none (plainly_fed side.acked (Loads z u) (Field_word x.word)) s t len (plainly_lacking side.acked (Loads z u) (Field_word x.word) tt) is)
  rest_refused w (Stores z word) t len at own = λ is. absurd (lacking_none (plainly_fed side.acked (Stores z word) Nothing) s t len (plainly_lacking side.acked (Stores z word) Nothing tt) is)
  rest_refused w (Swaps z u v n) t len at own = λ is. absurd (lacking_none (plainly_fed side.acked (Swaps z u v n) (Field_word x.word)) s t len (plainly_lacking side.acked (Swaps z u v n) (Field_word x.word) tt) is)
  rest_refused w (Follows z u m) t len at own = λ is. absurd (let gone : None ≡ Some s = at in cc)
  rest_refused w (Over z u end) t len at own = λ is. absurd (let gone : None ≡ Some s = at in cc)
  rest_refused w k t len at own = absurd own

  rest_put : (z : Spot) (t : Task) (u : FieldWord) (n : ℕ) (o : Option FieldWord) → IsAtRest x.state → c.clear ≡ false → May c x (put_event (Swaps z t u n) o)
  rest_put z t u n None still clear = tt
  rest_put z t u n (Some v) still clear = (rest_writable c x still v, unmarked c clear v)

  rest_may : (w : FieldWord) (k : Known) (found : Finds) → RestOwn c side x k → (has_field k ≡ true → RestShape c s.birth s.field x w) → May c x (event k found)
  rest_may w (Stores z word) found own shape = let so = shape refl in (rest_writable c x so.state word, unmarked c so.clear word)
  rest_may w (Swaps z t u n) found own shape = let so = shape refl in rest_put z t u n (puts (Swaps z t u n) found) so.state so.clear
  rest_may w (Loads_header z t) found own shape = tt
  rest_may w (Loads z t) found own shape = tt
  rest_may w (Follows z t m) found own shape = tt
  rest_may w (Over z t end) found own shape = tt
  rest_may w k found own shape = absurd own

  front_past : (f : Front) → Before side.seen h → ((past : List Call) → x.seal ≡ Some past → Before past h) → Before (front f x.seal h side.seen) h
  front_past Stays past seals = past
  front_past Now past seals = Before-refl h
  front_past SealedOrNow past seals = by_seal x.seal refl
    where
      by_seal : (seal : Option (List Call)) → x.seal ≡ seal → Before (sealed_or seal h) h
      by_seal None is = Before-refl h
      by_seal (Some early) is = seals early is

  -- nothing is sealed, so a look at the field has seen all changes
  front_now : (f : Front) → x.seal ≡ None → Before side.seen h → Before side.seen (front f x.seal h side.seen)
  front_now Stays none past = Before-refl side.seen
  front_now Now none past = past
  front_now SealedOrNow none past = rw none past

  front_later : (k : Known) (found : Finds) → RestOwn c side x k → (has_field k ≡ true → x.seal ≡ None) → Before side.seen h → Before side.seen (front (looks side.own k found) x.seal h side.seen)
  front_later (Loads z t) found own none past = front_now (looks side.own (Loads z t) found) (none refl) past
  front_later (Swaps z t u n) found own none past = front_now (looks side.own (Swaps z t u n) found) (none refl) past
  front_later (Loads_header z t) found own none past = Before-refl side.seen
  front_later (Stores z word) found own none past = Before-refl side.seen
  front_later (Follows z t m) found own none past = Before-refl side.seen
  front_later (Over z t end) found own none past = Before-refl side.seen
  front_later k found own none past = absurd own

-- no header is exchanged
owned_head : (c : Cycle) (side : Side) (x : Here) (k : Known) (tagged : Header) → RestOwn c side x k → head_of k ≡ Some tagged → ⊥
owned_head c side x (Keeps s t g) tagged own is = absurd own
owned_head c side x _ tagged own is = absurd (let gone : None ≡ Some tagged = is in cc)

step : (c : Cycle) (side : Side) (h : List Call) (s : Spot) (x : Here) (w : FieldWord) (k : Known) → ((past : List Call) → x.seal ≡ Some past → Before past h) → At at_rest c side h s x w k → StepEnd at_rest c side h s x k (finds c.phase x w k)
step c side h s x w k seals a =
    let found = finds c.phase x w k in
    let shape : has_field k ≡ true → RestShape c s.birth s.field x w = λ has. a.shape (a.inside has) in
    let tells = rest_tells c side h s x k w a.own shape (λ has. a.agrees (a.inside has)) in
    record {
      makes = rest_makes c side x k found a.own;
      may = rest_may c side h s x w k found a.own shape;
      own = rest_own c side h s x (record side { seen = seen_after (puts k found) side s k x found h }) (after (event k found) x) k found a.own;
      answered = rest_answered c side h s x k found a.spot a.own tells a.answered;
      wants = λ v put. rest_wants c side h s x k found v a.own tells a.answered put;
      inside = rest_inside c side h s x w k a.spot a.own a.inside;
      found_inside = rest_found c side h s x w k a.spot a.own a.inside;
      refused = λ t len is. rest_refused c side h s x w k t len a.spot a.own is;
      head = λ tagged is. absurd (owned_head c side x (rest_fed side.acked side.own k found) tagged (rest_own c side h s x side x k found a.own) is);
      aim = λ to is. rest_aim c side x w k to a.own is;
      wide = λ wide is. absurd (rest_wide c side x k wide a.own is);
      past = front_past c side h s x (looks side.own k found) a.past seals;
      later = front_later c side h s x k found a.own (λ has. (shape has).seal) a.past;
    }

-- ---- the objects, the collector's other steps, and moves

rest_shape : (c : Cycle) (b f : ℕ) (x : Here) (w v : FieldWord) (e : Event) → RestMakes e → May c x e → RestShape c b f x w → RestShape c b f (after e x) v
rest_shape c b f x w v e makes may shape = record { state = state_after e makes may; seal = seal_after e makes; clear = shape.clear; status = status_after e makes }
  where
    state_after : (e : Event) → RestMakes e → May c x e → IsAtRest (after e x).state
    state_after e makes may = grind (arith, makes, may, shape.state)

    seal_after : (e : Event) → RestMakes e → (after e x).seal ≡ None
    seal_after e makes = grind (arith, makes, shape.seal)

    status_after : (e : Event) → RestMakes e → (after e x).status ≡ InOriginal
    status_after e makes = grind (arith, makes, shape.status)

rest_arrives : (c : Cycle) (b f : ℕ) (y : Here) (v : FieldWord) (e : Event) → RestMakes e → Arrives e → RestShape c b f y v
rest_arrives c b f y v e makes arrives = absurd (never e makes arrives)
  where
    never : (e : Event) → RestMakes e → Arrives e → ⊥
    never e makes arrives = grind (arith, makes, arrives)

rest_born : (c : Cycle) (b f : ℕ) (x : Here) (w : FieldWord) → RestRight c → IsFresh x → RestShape c b f x w
rest_born c b f x w right fresh = record { state = rw fresh.state tt; seal = fresh.seal; clear = right; status = fresh.status }

rest_turn_own : (c d : Cycle) (side : Side) (x : Here) (k : Known) → RestOwn c side x k → RestOwn d side x k
rest_turn_own c d side x k own = grind (arith, own)

rest_other : (c : Cycle) (side : Side) (x y : Here) (k : Known) → RestOwn c side x k → RestOwn c side y k
rest_other c side x y k own = grind (arith, own)

rest_turn_clear : (c : Cycle) (e : Phasing) → RestPhases e → (phased e c).clear ≡ c.clear
rest_turn_clear c e phases = grind (arith, phases)

rest_turn_shape : (c : Cycle) (b f : ℕ) (x : Here) (w : FieldWord) (e : Phasing) → RestPhases e → RestShape c b f x w → RestShape (phased e c) b f x w
rest_turn_shape c b f x w e phases shape = record { state = shape.state; seal = shape.seal; clear = rest_turn_clear c e phases ∙ shape.clear; status = shape.status }

rest_head : (c : Cycle) (m : Carried) (x y : Here) → RestHead c m x → RestHead c m y
rest_head c m x y head = grind (arith, head)

-- a move only looks
looks_only : (c : Cycle) (m : Carried) (j : MoveJob) (x : Here) → job_of m ≡ Some j → RestHead c m x → m ≡ Looks j
looks_only c m j x job head = grind (arith, job, head)

looks_end : (c : Cycle) (h : List Call) (m : Carried) (j : MoveJob) (g : ℕ) (x : Here) (w : FieldWord) (found : Finds) → m ≡ Looks j → MoveEnd at_rest c h m g x w found
looks_end c h m j g x w found is = rw is (record { makes = tt; may = tt; place = λ live. refl; field = tt; hand = λ v no_widen. absurd cc })

not_at_field : (c : Cycle) (m : Carried) (x : Here) → IsAtField m → RestHead c m x → ⊥
not_at_field c m x at head = grind (arith, at, head)

pub rest_laws : ProtocolLaws at_rest
rest_laws = record {
  calls = record {
    begin = λ c side x cycle s t live fits. tt;
    begin_at = λ acked cycle own s t. refl;
    begin_task = λ acked cycle own s t. refl;
    begin_bare = λ acked cycle own s t. refl;
    step = step;
    goes = rest_goes;
    closes = rest_closes;
    bare = λ c side x y k bare own. rest_other c side x y k own;
    stays = λ c side h b f x w e k makes may dated past target fits shape own. rest_stays c side x e k own;
  };
  shapes = record {
    makes_quiet = tt;
    makes_write = λ w. tt;
    makes_copy = λ w. tt;
    makes_fix = λ w. tt;
    shape = λ c b f h x w e makes may dated place agrees target shape. rest_shape c b f x w (after_copy e w) e makes may shape;
    apart = λ c b f x w v away shape. record { state = shape.state; seal = shape.seal; clear = shape.clear; status = shape.status };
    born = λ c b f x w right fresh zero. rest_born c b f x w right fresh;
    arrives = λ c b f x y w v e makes arrives may place shape fresh same. rest_arrives c b f y v e makes arrives;
  };
  turns = record {
    own = λ c side b f x w k e turn phase fits shape own. rest_turn_own c (phased e c) side x k own;
    shape = λ c b f x w e phases phase shape. rest_turn_shape c b f x w e phases shape;
    right = λ c e phases go right. rest_turn_clear c e phases ∙ right;
    fits_seen = λ c side seen fits. fits;
  };
  moves = record {
    looks = λ c j g x w. tt;
    lays = λ c j g x w. tt;
    heads = λ c m x y same head. rest_head c m x y head;
    head_stays = λ c m x e makes by may head. rest_head c m x (after e x) head;
    field_stays = λ c m g x w e makes by may head field. tt;
    step = λ c h m j g b x y w v job inside same at shape head field. looks_end c h m j g x w (move_finds y m) (looks_only c m j y job head);
    head = λ c h m j g x y job same head. tt;
    job = λ c m j k y job head is. absurd (let gone : None ≡ Some k = is in cc);
    inside = λ c m j x job at head. absurd (not_at_field c m x at head);
    looked = λ j found. refl;
    begins = λ m found j is. absurd (let gone : Idles ≡ Lays j = is in cc);
    still = λ c j x head. absurd head;
    gives_up = λ c j x head. absurd head;
    given_up = λ j found. refl;
    forwarded = λ c j x head. absurd head;
    ends = λ c m j x job head none. rw (looks_only c m j x job head) tt;
  };
}
