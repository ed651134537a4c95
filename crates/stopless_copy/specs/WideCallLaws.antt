-- How a call goes on at a wide object, as the laws of a copier ask it.
use Rattle.std.specs.Prelude.{if◌then◌else◌}
use Rattle.std.proofs.Common.{◌≡◌, ℕ, inl, zero, suc, refl, sym, ap, Bool, true, false, Option, Some, None, is_some}
use Rattle.heap_words.specs.declared.field_word.FieldWord.{FieldWord}
use Rattle.wide_objects.specs.Statuses.{Status, InOriginal, InWide, InCopy, word_of_status}
use Rattle.heap_history.specs.FixedHeaps.{is_same}
use Rattle.barriers.specs.declared.spot.Spot.{Spot}
use Rattle.barriers.specs.declared.ends.TryRefusal.TheVariants as refusal
use Rattle.barriers.specs.Stances.{Stance}
use Rattle.barriers.specs.Spaces.{held, same_status}
use Rattle.barriers.specs.Says.{IsChange}
use Rattle.barriers.specs.Values.{value_of}
use Rattle.barriers.specs.Knowns.{Task, Reads, Writes, Exchanges, Wrote, Done, Refused, Known, Loads_header, Keeps, Loads, Stores, Swaps, Loads_wide, Swaps_wide, Loads_late, Loads_address, Loads_copy, Stores_copy, Swaps_copy, Over, Finds, Field_word, Wide_word, Address, at_field, task_of, head_of, word_in, puts, closes}
use Rattle.barriers.specs.Protocols.{WantsAt}
use Rattle.barriers.specs.ProtocolLaws.{GoesTo}
use Rattle.barriers.specs.PlainCalls.{to_copy, loaded, end_made}
use Rattle.barriers.specs.PlainCallLaws.{IsAnswer, StaysAt, by_test, closes_cases, closes_goes, loaded_goes, over_goes, staying_goes, stays_goes, goes_at, copy_stays}
use Rattle.barriers.specs.PlainAnswerLaws.{same_values, closes_lacking, lacking, copy_lacking}
use Rattle.tagged_calls.specs.TaggedCalls.{tagged_fed}
use Rattle.tagged_calls.specs.TaggedCallLaws.{IsTaggedCall, GoesWide, copy_head}
use Rattle.stopless_copy.specs.StoplessTable.{from_wide, from_original, by_original, by_wide, raced_wide, again_wide, retried_wide, lost_wide, tried_wide, stopless_fed}

-- ---- a call is at its header, at a plain word, or at a wide object

pub goes_wide : GoesWide Loads_wide
goes_wide = record {
  at = λ s t wide. refl;
  task = λ s t wide. refl;
  unmade = λ s t wide. refl;
  found = λ s t wide. refl;
  whole = λ s t wide. refl;
  head = λ s t wide. refl;
  answered = λ s t wide seen. tt;
}

abbrev pub IsWideCall : Known → Type 0
IsWideCall (Loads_wide s t wide) = Unit {0}
IsWideCall (Swaps_wide s t wide x n) = IsChange t
IsWideCall (Loads_late s t wide) = Unit {0}
IsWideCall (Loads_address s t wide) = Unit {0}
IsWideCall k = ⊥

-- before it comes to a wide object it goes on as where objects are tagged
pub as_tagged : (acked : Stance) (own : Option FieldWord) (k : Known) (found : Finds) → IsTaggedCall k → stopless_fed acked own k found ≡ tagged_fed Loads_wide acked k found
as_tagged acked own (Loads_header s t) found is = refl
as_tagged acked own (Keeps s t tagged) found is = refl
as_tagged acked own (Loads s t) found is = refl
as_tagged acked own (Stores s word) found is = refl
as_tagged acked own (Swaps s t x n) found is = refl
as_tagged acked own (Loads_copy s t to) found is = refl
as_tagged acked own (Stores_copy s word to) found is = refl
as_tagged acked own (Swaps_copy s t to x n) found is = refl
as_tagged acked own k found is = absurd is

-- ---- what is so of each call that it may become

module _ (P : Known → Type 0) (acked : Stance) (s : Spot) where
  -- with the field's word at hand: it exchanges, where the word has the value that it wants, or the word is its answer
  pub loaded_cases : (swaps : FieldWord → ℕ → Known) (t : Task) (x : FieldWord) → (IsChange t → WantsAt t x → P (swaps x 2)) → (IsAnswer t x → P (closes acked s t x)) → P (loaded swaps acked s t x)
  loaded_cases swaps Reads x on answers = answers tt
  loaded_cases swaps (Writes word) x on answers = on tt tt
  loaded_cases swaps (Exchanges expected word) x on answers =
      by_test P (is_same (value_of x) expected) (swaps x 2) (closes acked s (Exchanges expected word) x) (λ yes. on tt (same_values (value_of x) expected yes)) (λ no. answers no)

  module _ (wide : ℕ) (x : Status) where
    again_cases : (t : Task) (y : FieldWord) (n : ℕ) → ((m : ℕ) → P (from_wide s t wide y m)) → P (raced_wide s t x (InWide y)) → P (again_wide s t wide x y n)
    again_cases t y zero on raced = raced
    again_cases t y (suc n) on raced = on n

    retried_cases : (t : Task) (y : FieldWord) (n : ℕ) → (IsChange t → WantsAt t y → (m : ℕ) → P (from_wide s t wide y m)) → P (raced_wide s t x (InWide y)) → (IsAnswer t y → P (closes acked s t y)) → P (retried_wide acked s t wide x y n)
    retried_cases Reads y n on raced answers = answers tt
    retried_cases (Writes word) y n on raced answers = again_cases (Writes word) y n (on tt tt) raced
    retried_cases (Exchanges expected word) y n on raced answers =
        by_test P (is_same (value_of y) expected) (again_wide s (Exchanges expected word) wide x y n) (closes acked s (Exchanges expected word) y)
        (λ yes. again_cases (Exchanges expected word) y n (on tt (same_values (value_of y) expected yes)) raced) (λ no. answers no)

    -- after a lost exchange, by the status found
    pub lost_cases : (t : Task) (u : Status) (n : ℕ) → ((y : FieldWord) → u ≡ InWide y → IsChange t → WantsAt t y → (m : ℕ) → P (from_wide s t wide y m)) → P (raced_wide s t x u)
        → ((y : FieldWord) → u ≡ InWide y → IsAnswer t y → P (closes acked s t y)) → ((y : FieldWord) → u ≡ InCopy y → P (Loads_address s t wide)) → P (lost_wide acked s t wide x u n)
    lost_cases t InOriginal n on raced answers copied = raced
    lost_cases t (InWide y) n on raced answers copied = retried_cases t y n (on y refl) raced (answers y refl)
    lost_cases t (InCopy y) n on raced answers copied = copied y refl

  -- with a wide word whose value is in the original
  original_cases : (wide : ℕ) (t : Task) → ((word : FieldWord) → t ≡ Writes word → P (Swaps_wide s t wide InOriginal 2)) → P (Loads_late s t wide) → P (by_original s t wide)
  original_cases wide Reads swaps late = late
  original_cases wide (Writes word) swaps late = swaps word refl
  original_cases wide (Exchanges expected word) swaps late = late

  -- with the wide word at hand
  pub wide_cases : (wide : ℕ) (t : Task) (u : Status) → ((word : FieldWord) → u ≡ InOriginal → t ≡ Writes word → P (Swaps_wide s t wide InOriginal 2)) → (u ≡ InOriginal → P (Loads_late s t wide))
      → ((y : FieldWord) → u ≡ InWide y → IsChange t → WantsAt t y → P (from_wide s t wide y 2)) → ((y : FieldWord) → u ≡ InWide y → IsAnswer t y → P (closes acked s t y)) → ((y : FieldWord) → u ≡ InCopy y → P (Loads_address s t wide))
      → P (by_wide acked s t wide u)
  wide_cases wide t InOriginal swaps late on answers copied = original_cases wide t (λ word is. swaps word refl is) (late refl)
  wide_cases wide t (InWide y) swaps late on answers copied = loaded_cases (from_wide s t wide) t y (on y refl) (answers y refl)
  wide_cases wide t (InCopy y) swaps late on answers copied = copied y refl

-- ---- it goes on at its field, or it has what it came for

module _ (acked : Stance) (own : Option FieldWord) (s : Spot) (t : Task) (wide : ℕ) where
  -- the wide word that it exchanges is at the same field
  stays_wide : (k : Known) (x : Status) (n : ℕ) → at_field k ≡ Some s → task_of k ≡ t → StaysAt k (Swaps_wide s t wide x n)
  stays_wide k x n at task = goes_at k s t (Swaps_wide s t wide x n) at task refl refl refl

  late_stays : (k : Known) → at_field k ≡ Some s → task_of k ≡ t → StaysAt k (Loads_late s t wide)
  late_stays k at task = goes_at k s t (Loads_late s t wide) at task refl refl refl

  address_stays : (k : Known) → at_field k ≡ Some s → task_of k ≡ t → StaysAt k (Loads_address s t wide)
  address_stays k at task = goes_at k s t (Loads_address s t wide) at task refl refl refl

  look_goes : (u : Status) → GoesTo own (Loads_wide s t wide) (Wide_word u) (by_wide acked s t wide u)
  look_goes u =
      let k = Loads_wide s t wide in
      let found = Wide_word u in
      wide_cases (GoesTo own k found) acked s wide t u
      (λ word at is. staying_goes own k found (Swaps_wide s t wide InOriginal 2) s refl refl (stays_wide k InOriginal 2 refl refl))
      (λ at. staying_goes own k found (Loads_late s t wide) s refl refl (late_stays k refl refl))
      (λ y at changes wants. staying_goes own k found (from_wide s t wide y 2) s refl refl (stays_wide k (InWide y) 2 refl refl))
      (λ y at answer. closes_goes acked own k found t y refl answer refl (ap (λ (v : Status). Some (held v)) at))
      (λ y at. staying_goes own k found (Loads_address s t wide) s refl refl (address_stays k refl refl))

  late_goes : (x : FieldWord) → GoesTo own (Loads_late s t wide) (Field_word x) (loaded (from_original s t wide) acked s t x)
  late_goes x = loaded_goes acked own (Loads_late s t wide) s refl (from_original s t wide) (λ y n. stays_wide (Loads_late s t wide) InOriginal n refl refl) (Field_word x) t x refl refl refl

  -- an exchange of the wide word
  module _ (x : Status) (n : ℕ) (u : Status) where
    abbrev k : Known
    k = Swaps_wide s t wide x n

    won_goes : IsChange t → same_status u x ≡ true → GoesTo own k (Wide_word u) (Over s t (end_made t (held u)))
    won_goes changes wins = by t changes wins
      where
        by : (v : Task) → IsChange v → same_status u x ≡ true → GoesTo own (Swaps_wide s v wide x n) (Wide_word u) (Over s v (end_made v (held u)))
        by Reads changes wins = absurd changes
        by (Writes word) changes wins = over_goes own (Swaps_wide s (Writes word) wide x n) (Wide_word u) Wrote (record { made = sym (ap (λ (b : Bool). is_some (if b then word_in (Writes word) else None)) wins); suits = tt; hands = inl refl })
        by (Exchanges expected word) changes wins = over_goes own (Swaps_wide s (Exchanges expected word) wide x n) (Wide_word u) Done (record { made = sym (ap (λ (b : Bool). is_some (if b then word_in (Exchanges expected word) else None)) wins); suits = tt; hands = inl refl })

    none_put : same_status u x ≡ false → puts k (Wide_word u) ≡ None
    none_put loses = ap (λ (b : Bool). if b then word_in t else None) loses

    race_goes : IsChange t → puts k (Wide_word u) ≡ None → GoesTo own k (Wide_word u) (raced_wide s t x u)
    race_goes changes none = by t changes none
      where
        by : (v : Task) → IsChange v → puts (Swaps_wide s v wide x n) (Wide_word u) ≡ None → GoesTo own (Swaps_wide s v wide x n) (Wide_word u) (raced_wide s v x u)
        by Reads changes none = absurd changes
        by (Writes word) changes none = over_goes own (Swaps_wide s (Writes word) wide x n) (Wide_word u) (Refused (refusal.Raced (word_of_status x) (word_of_status u))) (record { made = sym (ap is_some none); suits = tt; hands = inl refl })
        by (Exchanges expected word) changes none = over_goes own (Swaps_wide s (Exchanges expected word) wide x n) (Wide_word u) (Refused (refusal.Raced (word_of_status x) (word_of_status u))) (record { made = sym (ap is_some none); suits = tt; hands = inl refl })

    lost_goes : IsChange t → same_status u x ≡ false → GoesTo own k (Wide_word u) (lost_wide acked s t wide x u n)
    lost_goes changes loses =
        lost_cases (GoesTo own k (Wide_word u)) acked s wide x t u n
        (λ y at c wants m. staying_goes own k (Wide_word u) (from_wide s t wide y m) s refl (none_put loses) (stays_wide k (InWide y) m refl refl))
        (race_goes changes (none_put loses))
        (λ y at answer. closes_goes acked own k (Wide_word u) t y refl answer (none_put loses) (ap (λ (v : Status). Some (held v)) at))
        (λ y at. staying_goes own k (Wide_word u) (Loads_address s t wide) s refl (none_put loses) (address_stays k refl refl))

    try_goes : IsChange t → GoesTo own k (Wide_word u) (tried_wide acked s t wide x u n)
    try_goes changes = by_test (GoesTo own k (Wide_word u)) (same_status u x) (Over s t (end_made t (held u))) (lost_wide acked s t wide x u n) (won_goes changes) (lost_goes changes)

-- whatever it finds
pub wide_goes : (acked : Stance) (own : Option FieldWord) (k : Known) (found : Finds) → IsWideCall k → GoesTo own k found (stopless_fed acked own k found)
wide_goes acked own (Loads_wide s t wide) (Wide_word u) is = look_goes acked own s t wide u
wide_goes acked own (Loads_wide s t wide) found is = stays_goes own (Loads_wide s t wide) found s refl refl
wide_goes acked own (Swaps_wide s t wide x n) (Wide_word u) is = try_goes acked own s t wide x n u is
wide_goes acked own (Swaps_wide s t wide x n) found is = stays_goes own (Swaps_wide s t wide x n) found s refl refl
wide_goes acked own (Loads_late s t wide) (Field_word x) is = late_goes acked own s t wide x
wide_goes acked own (Loads_late s t wide) found is = stays_goes own (Loads_late s t wide) found s refl refl
wide_goes acked own (Loads_address s t wide) (Address to) is = staying_goes own (Loads_address s t wide) (Address to) (to_copy s t to) s refl refl (copy_stays (Loads_address s t wide) s t to refl refl)
wide_goes acked own (Loads_address s t wide) found is = stays_goes own (Loads_address s t wide) found s refl refl
wide_goes acked own k found is = absurd is

-- ---- it exchanges no header, and is not refused for want of the field

-- what is so of every call that it may become
record Comes (P : Known → Type 0) (acked : Stance) : Type 0 where
  swaps : (s : Spot) (t : Task) (wide : ℕ) (x : Status) (n : ℕ) → P (Swaps_wide s t wide x n)
  late : (s : Spot) (t : Task) (wide : ℕ) → P (Loads_late s t wide)
  address : (s : Spot) (t : Task) (wide : ℕ) → P (Loads_address s t wide)
  copy : (s : Spot) (t : Task) (to : ℕ) → P (to_copy s t to)
  answers : (s : Spot) (t : Task) (x : FieldWord) → P (closes acked s t x)
  raced : (s : Spot) (t : Task) (x u : Status) → P (raced_wide s t x u)
  made : (s : Spot) (t : Task) (y : FieldWord) → P (Over s t (end_made t y))
  look : (s : Spot) (t : Task) (wide : ℕ) → P (Loads_wide s t wide)

comes : (P : Known → Type 0) (acked : Stance) (own : Option FieldWord) (k : Known) (found : Finds) → Comes P acked → IsWideCall k → P (stopless_fed acked own k found)
comes P acked own (Loads_wide s t wide) (Wide_word u) to is = wide_cases P acked s wide t u (λ word at e. to.swaps s t wide InOriginal 2) (λ at. to.late s t wide) (λ y at c w. to.swaps s t wide (InWide y) 2) (λ y at a. to.answers s t y) (λ y at. to.address s t wide)
comes P acked own (Loads_wide s t wide) found to is = to.look s t wide
comes P acked own (Swaps_wide s t wide x n) (Wide_word u) to is =
    by_test P (same_status u x) (Over s t (end_made t (held u))) (lost_wide acked s t wide x u n) (λ yes. to.made s t (held u))
    (λ no. lost_cases P acked s wide x t u n (λ y at c w m. to.swaps s t wide (InWide y) m) (to.raced s t x u) (λ y at a. to.answers s t y) (λ y at. to.address s t wide))
comes P acked own (Swaps_wide s t wide x n) found to is = to.swaps s t wide x n
comes P acked own (Loads_late s t wide) (Field_word x) to is = loaded_cases P acked s (from_original s t wide) t x (λ c w. to.swaps s t wide InOriginal 2) (λ a. to.answers s t x)
comes P acked own (Loads_late s t wide) found to is = to.late s t wide
comes P acked own (Loads_address s t wide) (Address to_at) to is = to.copy s t to_at
comes P acked own (Loads_address s t wide) found to is = to.address s t wide
comes P acked own k found to is = absurd is

closes_head : (acked : Stance) (s : Spot) (t : Task) (x : FieldWord) → head_of (closes acked s t x) ≡ None
closes_head acked s t x = closes_cases (λ k. head_of k ≡ None) acked s t x (λ birth at same. refl) refl

pub wide_headless : (acked : Stance) (own : Option FieldWord) (k : Known) (found : Finds) → IsWideCall k → head_of (stopless_fed acked own k found) ≡ None
wide_headless acked own k found is = comes (λ n. head_of n ≡ None) acked own k found (record {
  swaps = λ s t wide x n. refl;
  late = λ s t wide. refl;
  address = λ s t wide. refl;
  copy = copy_head;
  answers = closes_head acked;
  raced = λ s t x u. refl;
  made = λ s t y. refl;
  look = λ s t wide. refl;
}) is

made_lacking : (s : Spot) (t : Task) (y : FieldWord) → lacking (Over s t (end_made t y)) ≡ None
made_lacking s Reads y = refl
made_lacking s (Writes word) y = refl
made_lacking s (Exchanges expected word) y = refl

pub wide_whole : (acked : Stance) (own : Option FieldWord) (k : Known) (found : Finds) → IsWideCall k → lacking (stopless_fed acked own k found) ≡ None
wide_whole acked own k found is = comes (λ n. lacking n ≡ None) acked own k found (record {
  swaps = λ s t wide x n. refl;
  late = λ s t wide. refl;
  address = λ s t wide. refl;
  copy = copy_lacking;
  answers = closes_lacking acked;
  raced = λ s t x u. refl;
  made = made_lacking;
  look = λ s t wide. refl;
}) is
