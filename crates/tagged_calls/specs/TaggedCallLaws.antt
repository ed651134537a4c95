-- How a call goes on that may tag its object Kept, as the laws of a copier ask it.
use Rattle.std.proofs.Common.{◌≡◌, ℕ, ◌<◌, ◌≤◌, refl, sym, ap, ◌∙◌, true, false, Option, Some, None, List}
use Rattle.heap_words.specs.declared.field_word.FieldWord.{FieldWord}
use Rattle.object_headers.specs.declared.header.Colour.{Colour}
use Rattle.object_headers.specs.declared.header.Header.{Header}
use Rattle.heap_history.specs.NewestFirst.{value_at}
use Rattle.heap_history.specs.declared.call.Call.{Call}
use Rattle.barriers.specs.declared.spot.Spot.{Spot}
use Rattle.barriers.specs.States.{State, Absent, Plain, Kept, Tagged, Wide, Moving, Underway, Forward, Dead}
use Rattle.barriers.specs.Stances.{Stance}
use Rattle.barriers.specs.Spaces.{Here}
use Rattle.barriers.specs.Cycles.{Side}
use Rattle.barriers.specs.Knowns.{Task, Reads, Writes, Exchanges, Known, Loads_header, Keeps, Loads, Stores, Swaps, Loads_copy, Stores_copy, Swaps_copy, Finds, Nothing, Header_word, Field_word, at_field, has_field, has_found, task_of, head_of, finds, puts, wanted}
use Rattle.barriers.specs.Protocols.{Wants, Answered, has_made, seen_after}
use Rattle.barriers.specs.ProtocolLaws.{GoesTo, tagged_here}
use Rattle.barriers.specs.PlainCalls.{no_field, to_original, to_copy, plainly_fed}
use Rattle.barriers.specs.PlainCallLaws.{IsPlain, StaysAt, spot_at, goes_at, original_stays, copy_stays, staying_goes, stays_goes, plainly_goes, plainly_holds, where_goes, where_holds}
use Rattle.barriers.specs.PlainAnswerLaws.{Tells, original_answered, copy_answered, original_lacking, copy_lacking, original_found, copy_found, lacking, lacking_none, plainly_answered, plainly_wants, plainly_lacking, where_inside, where_found, where_refused}
use Rattle.tagged_calls.specs.TaggedCalls.{tagged_of, keeps_first, by_kept, by_header, tagged_fed}

-- a call at its header, or at a plain word
abbrev pub IsTaggedCall : Known → Type 0
IsTaggedCall (Loads_header s t) = Unit {0}
IsTaggedCall (Keeps s t tagged) = Unit {0}
IsTaggedCall (Loads s t) = Unit {0}
IsTaggedCall (Stores s word) = Unit {0}
IsTaggedCall (Swaps s t x n) = Unit {0}
IsTaggedCall (Loads_copy s t to) = Unit {0}
IsTaggedCall (Stores_copy s word to) = Unit {0}
IsTaggedCall (Swaps_copy s t to x n) = Unit {0}
IsTaggedCall k = ⊥

-- how a call goes on at a wide object: it is at the same field, and has found nothing yet
pub record GoesWide (to_wide : Spot → Task → ℕ → Known) : Type 0 where
  pub at : (s : Spot) (t : Task) (wide : ℕ) → at_field (to_wide s t wide) ≡ Some s
  pub task : (s : Spot) (t : Task) (wide : ℕ) → task_of (to_wide s t wide) ≡ t
  pub unmade : (s : Spot) (t : Task) (wide : ℕ) → has_made (to_wide s t wide) ≡ false
  pub found : (s : Spot) (t : Task) (wide : ℕ) → has_found (to_wide s t wide) ≡ false
  pub whole : (s : Spot) (t : Task) (wide : ℕ) → lacking (to_wide s t wide) ≡ None
  pub head : (s : Spot) (t : Task) (wide : ℕ) → head_of (to_wide s t wide) ≡ None
  pub answered : (s : Spot) (t : Task) (wide : ℕ) (seen : List Call) → Answered seen (to_wide s t wide)

-- ---- what is so of each call that it may become

-- a header that sends a call to the original
abbrev pub StaysHere : State → Type 0
StaysHere (Wide wide) = ⊥
StaysHere (Forward to) = ⊥
StaysHere x = Unit {0}

-- and to write there, too
abbrev pub StaysUntagged : State → Type 0
StaysUntagged Tagged = ⊥
StaysUntagged x = StaysHere x

module _ (to_wide : Spot → Task → ℕ → Known) where
  pub kept_holds : (P : Known → Type 0) (s : Spot) (t : Task) (x : State) → (StaysHere x → P (to_original s t)) → ((to : ℕ) → x ≡ Forward to → P (to_copy s t to)) → ((wide : ℕ) → x ≡ Wide wide → P (to_wide s t wide)) → P (by_kept to_wide s t x)
  kept_holds P s t (Forward to) here copy wide = copy to refl
  kept_holds P s t (Wide w) here copy wide = wide w refl
  kept_holds P s t Absent here copy wide = here tt
  kept_holds P s t Plain here copy wide = here tt
  kept_holds P s t Kept here copy wide = here tt
  kept_holds P s t Tagged here copy wide = here tt
  kept_holds P s t (Moving to) here copy wide = here tt
  kept_holds P s t Underway here copy wide = here tt
  kept_holds P s t Dead here copy wide = here tt

  pub header_holds : (P : Known → Type 0) (s : Spot) (t : Task) (x : State) (colour : Colour) (len : ℕ)
      → (StaysUntagged x → P (to_original s t)) → (x ≡ Tagged → P (keeps_first s t (tagged_of s colour len))) → ((to : ℕ) → x ≡ Forward to → P (to_copy s t to)) → ((wide : ℕ) → x ≡ Wide wide → P (to_wide s t wide)) → P (by_header to_wide s t x colour len)
  header_holds P s t (Forward to) colour len here tagged copy wide = copy to refl
  header_holds P s t (Wide w) colour len here tagged copy wide = wide w refl
  header_holds P s t Absent colour len here tagged copy wide = here tt
  header_holds P s t Plain colour len here tagged copy wide = here tt
  header_holds P s t Kept colour len here tagged copy wide = here tt
  header_holds P s t Tagged colour len here tagged copy wide = tagged refl
  header_holds P s t (Moving to) colour len here tagged copy wide = here tt
  header_holds P s t Underway colour len here tagged copy wide = here tt
  header_holds P s t Dead colour len here tagged copy wide = here tt

pub first_holds : (P : Known → Type 0) (s : Spot) (t : Task) (tagged : Header) → (t ≡ Reads → P (to_original s Reads)) → P (Keeps s t tagged) → P (keeps_first s t tagged)
first_holds P s Reads tagged reads keeps = reads refl
first_holds P s (Writes word) tagged reads keeps = keeps
first_holds P s (Exchanges expected word) tagged reads keeps = keeps

pub original_head : (s : Spot) (t : Task) → head_of (to_original s t) ≡ None
original_head s Reads = refl
original_head s (Writes word) = refl
original_head s (Exchanges expected word) = refl

pub copy_head : (s : Spot) (t : Task) (to : ℕ) → head_of (to_copy s t to) ≡ None
copy_head s Reads to = refl
copy_head s (Writes word) to = refl
copy_head s (Exchanges expected word) to = refl

-- ---- the laws

-- at a plain word it goes on as such a call does, and a read at the header as if it were not Tagged
module _ (to_wide : Spot → Task → ℕ → Known) where
  pub tagged_plainly : (acked : Stance) (k : Known) (found : Finds) → IsPlain k → tagged_fed to_wide acked k found ≡ plainly_fed acked k found
  tagged_plainly acked (Loads z t) found plain = refl
  tagged_plainly acked (Stores z word) found plain = refl
  tagged_plainly acked (Swaps z t v n) found plain = refl
  tagged_plainly acked (Loads_copy z t to) found plain = refl
  tagged_plainly acked (Stores_copy z word to) found plain = refl
  tagged_plainly acked (Swaps_copy z t to v n) found plain = refl
  tagged_plainly acked k found plain = absurd plain

  pub read_header : (s : Spot) (x : State) (colour : Colour) (len : ℕ) → by_kept to_wide s Reads x ≡ by_header to_wide s Reads x colour len
  read_header s x colour len = header_holds to_wide (λ k. by_kept to_wide s Reads x ≡ k) s Reads x colour len (λ here. stays x here) (λ is. ap (by_kept to_wide s Reads) is) (λ to is. ap (by_kept to_wide s Reads) is) (λ wide is. ap (by_kept to_wide s Reads) is)
    where
      stays : (x : State) → StaysUntagged x → by_kept to_wide s Reads x ≡ to_original s Reads
      stays (Forward to) here = absurd here
      stays (Wide wide) here = absurd here
      stays Tagged here = absurd here
      stays Absent here = refl
      stays Plain here = refl
      stays Kept here = refl
      stays (Moving to) here = refl
      stays Underway here = refl
      stays Dead here = refl

module _ (to_wide : Spot → Task → ℕ → Known) (goes_wide : GoesWide to_wide) where
  wide_stays : (k : Known) (s : Spot) (t : Task) (wide : ℕ) → at_field k ≡ Some s → task_of k ≡ t → StaysAt k (to_wide s t wide)
  wide_stays k s t wide at task = goes_at k s t (to_wide s t wide) at task (goes_wide.at s t wide) (goes_wide.task s t wide) (goes_wide.unmade s t wide)

  kept_stays : (k : Known) (s : Spot) (t : Task) (x : State) → at_field k ≡ Some s → task_of k ≡ t → StaysAt k (by_kept to_wide s t x)
  kept_stays k s t x at task = kept_holds to_wide (StaysAt k) s t x (λ here. original_stays k s t at task) (λ to is. copy_stays k s t to at task) (λ wide is. wide_stays k s t wide at task)

  first_stays : (k : Known) (s : Spot) (t : Task) (tagged : Header) → at_field k ≡ Some s → task_of k ≡ t → StaysAt k (keeps_first s t tagged)
  first_stays k s Reads tagged at task = original_stays k s Reads at task
  first_stays k s (Writes word) tagged at task = goes_at k s (Writes word) (Keeps s (Writes word) tagged) at task refl refl refl
  first_stays k s (Exchanges expected word) tagged at task = goes_at k s (Exchanges expected word) (Keeps s (Exchanges expected word) tagged) at task refl refl refl

  header_stays : (k : Known) (s : Spot) (t : Task) (x : State) (colour : Colour) (len : ℕ) → at_field k ≡ Some s → task_of k ≡ t → StaysAt k (by_header to_wide s t x colour len)
  header_stays k s t x colour len at task =
      header_holds to_wide (StaysAt k) s t x colour len (λ here. original_stays k s t at task) (λ is. first_stays k s t (tagged_of s colour len) at task) (λ to is. copy_stays k s t to at task) (λ wide is. wide_stays k s t wide at task)

  -- whatever it finds it goes on at its field, or it has what it came for
  pub tagged_goes : (acked : Stance) (own : Option FieldWord) (k : Known) (found : Finds) → IsTaggedCall k → GoesTo own k found (tagged_fed to_wide acked k found)
  tagged_goes acked own (Loads_header z t) (Header_word y colour len) is = where_goes own (Loads_header z t) (Header_word y colour len) z len (by_header to_wide z t y colour len) refl refl (header_stays (Loads_header z t) z t y colour len refl refl)
  tagged_goes acked own (Loads_header z t) found is = stays_goes own (Loads_header z t) found z refl refl
  tagged_goes acked own (Keeps z t tagged) (Header_word y colour len) is = staying_goes own (Keeps z t tagged) (Header_word y colour len) (by_kept to_wide z t y) z refl refl (kept_stays (Keeps z t tagged) z t y refl refl)
  tagged_goes acked own (Keeps z t tagged) found is = stays_goes own (Keeps z t tagged) found z refl refl
  tagged_goes acked own (Loads z t) found is = plainly_goes acked own (Loads z t) found tt
  tagged_goes acked own (Stores z word) found is = plainly_goes acked own (Stores z word) found tt
  tagged_goes acked own (Swaps z t v n) found is = plainly_goes acked own (Swaps z t v n) found tt
  tagged_goes acked own (Loads_copy z t to) found is = plainly_goes acked own (Loads_copy z t to) found tt
  tagged_goes acked own (Stores_copy z word to) found is = plainly_goes acked own (Stores_copy z word to) found tt
  tagged_goes acked own (Swaps_copy z t to v n) found is = plainly_goes acked own (Swaps_copy z t to v n) found tt
  tagged_goes acked own k found is = absurd is

  -- ---- the header that it will exchange is the one here

  abbrev pub IsHead : Spot → Here → Known → Type 0
  IsHead s x k = (tagged : Header) → head_of k ≡ Some tagged → tagged ≡ tagged_here s x

  headless : (s : Spot) (x : Here) (k : Known) → head_of k ≡ None → IsHead s x k
  headless s x k none tagged is = absurd (let gone : None ≡ Some tagged = sym none ∙ is in cc)

  same_head : (s : Spot) (t : Task) (x : Here) → IsHead s x (Keeps s t (tagged_of s x.colour x.len))
  same_head s t x tagged is = let same : tagged_of s x.colour x.len ≡ tagged = cc in sym same

  plainly_head : (acked : Stance) (k : Known) (found : Finds) → IsTaggedCall k → head_of k ≡ None → (has_field k ≡ true) → head_of (plainly_fed acked k found) ≡ None
  plainly_head acked (Loads s t) found is none has = plainly_holds (λ n. head_of n ≡ None) acked (Loads s t) found tt refl (λ w n e. refl) (λ b a e. refl) (λ end. refl)
  plainly_head acked (Stores s word) found is none has = refl
  plainly_head acked (Swaps s t v n) found is none has = plainly_holds (λ n. head_of n ≡ None) acked (Swaps s t v n) found tt refl (λ w n e. refl) (λ b a e. refl) (λ end. refl)
  plainly_head acked (Loads_copy s t to) found is none has = plainly_holds (λ n. head_of n ≡ None) acked (Loads_copy s t to) found tt refl (λ w n e. refl) (λ b a e. refl) (λ end. refl)
  plainly_head acked (Stores_copy s word to) found is none has = refl
  plainly_head acked (Swaps_copy s t to v n) found is none has = plainly_holds (λ n. head_of n ≡ None) acked (Swaps_copy s t to v n) found tt refl (λ w n e. refl) (λ b a e. refl) (λ end. refl)
  plainly_head acked (Keeps s t tagged) found is none has = absurd (let gone : Some tagged ≡ None = none in cc)
  plainly_head acked (Loads_header s t) found is none has = absurd (let gone : false ≡ true = has in cc)
  plainly_head acked k found is none has = absurd is

  module _ (acked : Stance) (p : Stance) (s : Spot) (x : Here) (w : FieldWord) where
    abbrev next : Known → Known
    next k = tagged_fed to_wide acked k (finds p x w k)

    pub tagged_head : (k : Known) → at_field k ≡ Some s → IsTaggedCall k → IsHead s x (next k)
    tagged_head (Loads_header z t) at is =
        let same : z ≡ s = spot_at (Loads_header z t) s at in
        rw (← same) (where_holds (IsHead z x) z t x.len (by_header to_wide z t x.state x.colour x.len)
        (λ lt. header_holds to_wide (IsHead z x) z t x.state x.colour x.len
        (λ here. headless z x (to_original z t) (original_head z t))
        (λ e. first_holds (IsHead z x) z t (tagged_of z x.colour x.len) (λ r. headless z x (to_original z Reads) refl) (same_head z t x))
        (λ to e. headless z x (to_copy z t to) (copy_head z t to))
        (λ wide e. headless z x (to_wide z t wide) (goes_wide.head z t wide)))
        (λ le. headless z x (no_field z t x.len) refl))
    tagged_head (Keeps z t tagged) at is =
        kept_holds to_wide (IsHead s x) z t x.state
        (λ here. headless s x (to_original z t) (original_head z t)) (λ to e. headless s x (to_copy z t to) (copy_head z t to)) (λ wide e. headless s x (to_wide z t wide) (goes_wide.head z t wide))
    tagged_head (Loads z t) at is = headless s x (next (Loads z t)) (plainly_head acked (Loads z t) (Field_word x.word) tt refl refl)
    tagged_head (Stores z word) at is = headless s x (next (Stores z word)) refl
    tagged_head (Swaps z t v n) at is = headless s x (next (Swaps z t v n)) (plainly_head acked (Swaps z t v n) (Field_word x.word) tt refl refl)
    tagged_head (Loads_copy z t to) at is = headless s x (next (Loads_copy z t to)) (plainly_head acked (Loads_copy z t to) (Field_word w) tt refl refl)
    tagged_head (Stores_copy z word to) at is = headless s x (next (Stores_copy z word to)) refl
    tagged_head (Swaps_copy z t to v n) at is = headless s x (next (Swaps_copy z t to v n)) (plainly_head acked (Swaps_copy z t to v n) (Field_word w) tt refl refl)
    tagged_head k at is = absurd is

    -- ---- the field is the object's, once the header was loaded

    header_found : (z : Spot) (t : Task) (y : State) (colour : Colour) (len : ℕ) → has_found (by_header to_wide z t y colour len) ≡ false
    header_found z t y colour len =
        header_holds to_wide (λ k. has_found k ≡ false) z t y colour len (λ here. original_found z t)
        (λ e. first_holds (λ k. has_found k ≡ false) z t (tagged_of z colour len) (λ r. refl) refl) (λ to e. copy_found z t to) (λ wide e. goes_wide.found z t wide)

    kept_lacking : (z : Spot) (t : Task) (y : State) → lacking (by_kept to_wide z t y) ≡ None
    kept_lacking z t y = kept_holds to_wide (λ k. lacking k ≡ None) z t y (λ here. original_lacking z t) (λ to e. copy_lacking z t to) (λ wide e. goes_wide.whole z t wide)

    header_lacking : (z : Spot) (t : Task) (y : State) (colour : Colour) (len : ℕ) → lacking (by_header to_wide z t y colour len) ≡ None
    header_lacking z t y colour len =
        header_holds to_wide (λ k. lacking k ≡ None) z t y colour len (λ here. original_lacking z t)
        (λ e. first_holds (λ k. lacking k ≡ None) z t (tagged_of z colour len) (λ r. refl) refl) (λ to e. copy_lacking z t to) (λ wide e. goes_wide.whole z t wide)

    pub tagged_inside : (k : Known) → at_field k ≡ Some s → IsTaggedCall k → (has_field k ≡ true → s.field < x.len) → has_field (next k) ≡ true → s.field < x.len
    tagged_inside (Loads_header z t) at is inside has = let lt : z.field < x.len = where_inside z t x.len (by_header to_wide z t x.state x.colour x.len) has in rw (spot_at (Loads_header z t) s at) at lt
    tagged_inside (Keeps z t tagged) at is inside has = inside refl
    tagged_inside (Loads z t) at is inside has = inside refl
    tagged_inside (Stores z word) at is inside has = inside refl
    tagged_inside (Swaps z t v n) at is inside has = inside refl
    tagged_inside (Loads_copy z t to) at is inside has = inside refl
    tagged_inside (Stores_copy z word to) at is inside has = inside refl
    tagged_inside (Swaps_copy z t to v n) at is inside has = inside refl
    tagged_inside k at is inside has = absurd is

    pub tagged_found : (k : Known) → at_field k ≡ Some s → IsTaggedCall k → (has_field k ≡ true → s.field < x.len) → has_found (next k) ≡ true → s.field < x.len
    tagged_found (Loads_header z t) at is inside has = absurd (where_found z t x.len (by_header to_wide z t x.state x.colour x.len) (header_found z t x.state x.colour x.len) has)
    tagged_found (Keeps z t tagged) at is inside has = inside refl
    tagged_found (Loads z t) at is inside has = inside refl
    tagged_found (Stores z word) at is inside has = inside refl
    tagged_found (Swaps z t v n) at is inside has = inside refl
    tagged_found (Loads_copy z t to) at is inside has = inside refl
    tagged_found (Stores_copy z word to) at is inside has = inside refl
    tagged_found (Swaps_copy z t to v n) at is inside has = inside refl
    tagged_found k at is inside has = absurd is

    -- it is refused for want of the field only by the header that it loaded
    pub tagged_refused : (k : Known) (t : Task) (len : ℕ) → at_field k ≡ Some s → IsTaggedCall k → next k ≡ no_field s t len → (len ≡ x.len) × (x.len ≤ s.field)
    tagged_refused (Loads_header z u) t len at is so = let short = where_refused z u x.len (by_header to_wide z u x.state x.colour x.len) s t len (header_lacking z u x.state x.colour x.len) so in (short.0, rw (spot_at (Loads_header z u) s at) at short.1)
    tagged_refused (Keeps z u tagged) t len at is so = absurd (lacking_none (by_kept to_wide z u x.state) s t len (kept_lacking z u x.state) so)
    tagged_refused (Loads z u) t len at is so = absurd (lacking_none (next (Loads z u)) s t len (plainly_lacking acked (Loads z u) (Field_word x.word) tt) so)
    tagged_refused (Stores z word) t len at is so = absurd (lacking_none (next (Stores z word)) s t len (plainly_lacking acked (Stores z word) Nothing tt) so)
    tagged_refused (Swaps z u v n) t len at is so = absurd (lacking_none (next (Swaps z u v n)) s t len (plainly_lacking acked (Swaps z u v n) (Field_word x.word) tt) so)
    tagged_refused (Loads_copy z u to) t len at is so = absurd (lacking_none (next (Loads_copy z u to)) s t len (plainly_lacking acked (Loads_copy z u to) (Field_word w) tt) so)
    tagged_refused (Stores_copy z word to) t len at is so = absurd (lacking_none (next (Stores_copy z word to)) s t len (plainly_lacking acked (Stores_copy z word to) Nothing tt) so)
    tagged_refused (Swaps_copy z u to v n) t len at is so = absurd (lacking_none (next (Swaps_copy z u to v n)) s t len (plainly_lacking acked (Swaps_copy z u to v n) (Field_word w) tt) so)
    tagged_refused k t len at is so = absurd is

  -- ---- what it has found out

  kept_answered : (z : Spot) (t : Task) (y : State) (seen : List Call) → Answered seen (by_kept to_wide z t y)
  kept_answered z t y seen = kept_holds to_wide (Answered seen) z t y (λ here. original_answered z t seen) (λ to e. copy_answered z t to seen) (λ wide e. goes_wide.answered z t wide seen)

  header_answered : (z : Spot) (t : Task) (y : State) (colour : Colour) (len : ℕ) (seen : List Call) → Answered seen (by_header to_wide z t y colour len)
  header_answered z t y colour len seen =
      header_holds to_wide (Answered seen) z t y colour len (λ here. original_answered z t seen)
      (λ e. first_holds (Answered seen) z t (tagged_of z colour len) (λ r. tt) tt) (λ to e. copy_answered z t to seen) (λ wide e. goes_wide.answered z t wide seen)

  module _ (acked : Stance) (h : List Call) (side : Side) (s : Spot) (x : Here) where
    pub tagged_answered : (k : Known) (found : Finds) → at_field k ≡ Some s → IsTaggedCall k → Tells h side x.seal s k found → Answered side.seen k → Answered (seen_after (puts k found) side s k x found h) (tagged_fed to_wide acked k found)
    tagged_answered (Loads_header z t) (Header_word y colour len) at is tells was = where_holds (Answered side.seen) z t len (by_header to_wide z t y colour len) (λ lt. header_answered z t y colour len side.seen) (λ le. tt)
    tagged_answered (Loads_header z t) found at is tells was = tt
    tagged_answered (Keeps z t tagged) (Header_word y colour len) at is tells was = kept_answered z t y side.seen
    tagged_answered (Keeps z t tagged) found at is tells was = tt
    tagged_answered (Loads z t) found at is tells was = plainly_answered acked h side s x (Loads z t) found tt (spot_at (Loads z t) s at) tells was
    tagged_answered (Stores z word) found at is tells was = plainly_answered acked h side s x (Stores z word) found tt (spot_at (Stores z word) s at) tells was
    tagged_answered (Swaps z t u n) found at is tells was = plainly_answered acked h side s x (Swaps z t u n) found tt (spot_at (Swaps z t u n) s at) tells was
    tagged_answered (Loads_copy z t to) found at is tells was = plainly_answered acked h side s x (Loads_copy z t to) found tt (spot_at (Loads_copy z t to) s at) tells was
    tagged_answered (Stores_copy z word to) found at is tells was = plainly_answered acked h side s x (Stores_copy z word to) found tt (spot_at (Stores_copy z word to) s at) tells was
    tagged_answered (Swaps_copy z t to u n) found at is tells was = plainly_answered acked h side s x (Swaps_copy z t to u n) found tt (spot_at (Swaps_copy z t to u n) s at) tells was
    tagged_answered k found at is tells was = absurd is

    -- and the value that an exchange wants was there
    pub tagged_wants : (k : Known) (found : Finds) (v : FieldWord) → IsTaggedCall k → Tells h side x.seal s k found → Answered side.seen k → puts k found ≡ Some v → Wants (wanted k) (value_at h s.birth s.field)
    tagged_wants (Loads_header z t) found v is tells was put = tt
    tagged_wants (Keeps z t tagged) found v is tells was put = tt
    tagged_wants (Loads z t) found v is tells was put = tt
    tagged_wants (Stores z word) found v is tells was put = tt
    tagged_wants (Swaps z t u n) found v is tells was put = plainly_wants acked h side s x (Swaps z t u n) found v tt tells was put
    tagged_wants (Loads_copy z t to) found v is tells was put = tt
    tagged_wants (Stores_copy z word to) found v is tells was put = tt
    tagged_wants (Swaps_copy z t to u n) found v is tells was put = plainly_wants acked h side s x (Swaps_copy z t to u n) found v tt tells was put
    tagged_wants k found v is tells was put = absurd is
