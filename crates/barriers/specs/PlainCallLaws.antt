-- How a call goes on at a word that it loads, stores or exchanges, as the laws of a copier ask it.
use Rattle.std.specs.Prelude.{nat_lt, if◌then◌else◌}
use Rattle.std.proofs.Common.{◌≡◌, ℕ, ◌<◌, ◌≤◌, inl, inr, zero, suc, refl, sym, ap, ◌∙◌, arith, Bool, true, false, Option, Some, None, is_some}
use Rattle.std.proofs.lemmas.Bool.Decides.{nat_tests}
use Rattle.heap_words.specs.declared.field_word.FieldWord.{FieldWord}
use Rattle.heap_words.specs.declared.field_word.FieldWord.TheVariants.{Num, Link}
use Rattle.heap_words.specs.FieldWords.{word_of}
use Rattle.handshakes.specs.declared.follow.FollowMachine.TheVariants as follow
use Rattle.heap_history.specs.FixedHeaps.{is_same}
use Rattle.barriers.specs.declared.spot.Spot.{Spot}
use Rattle.barriers.specs.declared.ends.TryRefusal.TheVariants as refusal
use Rattle.barriers.specs.States.{same_word}
use Rattle.barriers.specs.Stances.{Stance, Mark, Confirm, Search, Copy, Fix, Free, Retired}
use Rattle.barriers.specs.Values.{value_of}
use Rattle.barriers.specs.Knowns.{Task, Reads, Writes, Exchanges, Ending, Wrote, Refused, Known, Loads, Stores, Swaps, Loads_copy, Stores_copy, Swaps_copy, Follows, Over, Finds, Field_word, at_field, spot_of, task_of, hand_of, writes_yet, word_in, word_ended, puts, found_ending, closes}
use Rattle.barriers.specs.Protocols.{Suits, From, has_made, word_found}
use Rattle.barriers.specs.ProtocolLaws.{GoesTo}
use Rattle.barriers.specs.PlainCalls.{no_field, to_original, to_copy, where_field, loaded, end_made, raced, again, lost, exchanged, plainly_fed}

-- ---- a call that has a word which it came for

-- the word is the call's answer: a read's, or another than an exchange expects
abbrev pub IsAnswer : Task → FieldWord → Type 0
IsAnswer Reads x = Unit {0}
IsAnswer (Writes word) x = ⊥
IsAnswer (Exchanges expected word) x = is_same (value_of x) expected ≡ false

-- it follows a link, or it is over
pub closes_cases : (P : Known → Type 0) (acked : Stance) (s : Spot) (t : Task) (x : FieldWord) → ((birth at : ℕ) → x ≡ Link birth at → P (Follows s t (follow.Header birth at))) → P (Over s t (found_ending t x)) → P (closes acked s t x)
closes_cases P Fix s t (Link birth at) follows over = follows birth at refl
closes_cases P Fix s t (Num n) follows over = over
closes_cases P Mark s t x follows over = over
closes_cases P Confirm s t x follows over = over
closes_cases P Search s t x follows over = over
closes_cases P Copy s t x follows over = over
closes_cases P Free s t x follows over = over
closes_cases P Retired s t x follows over = over

-- ---- what goes on so

-- a call that stays at its field, with the word that it will write
pub record StaysAt (k next : Known) : Type 0 where
  pub spot : spot_of next ≡ spot_of k
  pub task : task_of next ≡ task_of k
  pub at : at_field next ≡ at_field k
  pub unmade : has_made next ≡ false
  pub hand : hand_of next ≡ hand_of k
  pub writes : writes_yet next ≡ writes_yet k

at_not_over : (next : Known) (s z : Spot) (t : Task) (end : Ending) → at_field next ≡ Some z → next ≡ Over s t end → ⊥
at_not_over next s z t end at is = let gone : None ≡ Some z = sym (ap at_field is) ∙ at in cc

pub staying_goes : (own : Option FieldWord) (k : Known) (found : Finds) (next : Known) (s : Spot) → at_field k ≡ Some s → puts k found ≡ None → StaysAt k next → GoesTo own k found next
staying_goes own k found next s at none stays = record {
  spot = stays.spot;
  task = stays.task;
  stays = inr stays.at;
  made = stays.unmade ∙ sym (ap is_some none);
  suits = λ z t end is. absurd (at_not_over next z s t end (stays.at ∙ at) is);
  hands = inr (inl stays.hand);
  settles = inr stays.writes;
}

-- a call that is over
pub record EndsSo (own : Option FieldWord) (k : Known) (found : Finds) (end : Ending) : Type 0 where
  pub made : has_made (Over (spot_of k) (task_of k) end) ≡ is_some (puts k found)
  pub suits : Suits (task_of k) end
  pub hands : From own (hand_of k) (word_found found) (word_ended end)

same_end : (s z : Spot) (t u : Task) (end other : Ending) → Over s t end ≡ Over z u other → (t ≡ u) × (end ≡ other)
same_end s z t u end other is = (cc, cc)

pub over_goes : (own : Option FieldWord) (k : Known) (found : Finds) (end : Ending) → EndsSo own k found end → GoesTo own k found (Over (spot_of k) (task_of k) end)
over_goes own k found end so = record {
  spot = refl;
  task = refl;
  stays = inl refl;
  made = so.made;
  suits = λ z t other is. let same = same_end (spot_of k) z (task_of k) t end other is in rw (← same.0, ← same.1) so.suits;
  hands = so.hands;
  settles = inl refl;
}

-- a call that follows the link that it found
pub follows_goes : (own : Option FieldWord) (k : Known) (found : Finds) (birth at : ℕ) → puts k found ≡ None → word_found found ≡ Some (Link birth at) → GoesTo own k found (Follows (spot_of k) (task_of k) (follow.Header birth at))
follows_goes own k found birth at none is = record {
  spot = refl;
  task = refl;
  stays = inl refl;
  made = sym (ap is_some none);
  suits = λ z t end no. absurd (let gone : Follows (spot_of k) (task_of k) (follow.Header birth at) ≡ Over z t end = no in cc);
  hands = inr (inr (inl (sym is)));
  settles = inl refl;
}

answer_ends : (own : Option FieldWord) (k : Known) (found : Finds) (x : FieldWord) (t : Task) → task_of k ≡ t → IsAnswer t x → puts k found ≡ None → word_found found ≡ Some x → EndsSo own k found (found_ending t x)
answer_ends own k found x Reads same answer none is = record { made = sym (ap is_some none); suits = rw same tt; hands = inr (inr (inl (sym is))) }
answer_ends own k found x (Writes word) same answer none is = absurd answer
answer_ends own k found x (Exchanges expected word) same answer none is = record { made = sym (ap is_some none); suits = rw same tt; hands = inr (inr (inl (sym is))) }

-- a call that has its answer
closes_task : (acked : Stance) (own : Option FieldWord) (k : Known) (found : Finds) (x : FieldWord) → IsAnswer (task_of k) x → puts k found ≡ None → word_found found ≡ Some x → GoesTo own k found (closes acked (spot_of k) (task_of k) x)
closes_task acked own k found x answer none is =
    closes_cases (GoesTo own k found) acked (spot_of k) (task_of k) x
    (λ birth at same. follows_goes own k found birth at none (is ∙ ap Some same))
    (over_goes own k found (found_ending (task_of k) x) (answer_ends own k found x (task_of k) refl answer none is))

pub closes_goes : (acked : Stance) (own : Option FieldWord) (k : Known) (found : Finds) (t : Task) (x : FieldWord) → task_of k ≡ t → IsAnswer t x → puts k found ≡ None → word_found found ≡ Some x → GoesTo own k found (closes acked (spot_of k) t x)
closes_goes acked own k found t x same answer none is = rw (← same) (closes_task acked own k found x (rw same answer) none is)

-- ---- loads and exchanges, in the original or in the copy

pub by_test : (P : Known → Type 0) (test : Bool) (a b : Known) → (test ≡ true → P a) → (test ≡ false → P b) → P (if test then a else b)
by_test P true a b won lost = won refl
by_test P false a b won lost = lost refl

-- where its exchanges are at the same field, for the same call
module _ (acked : Stance) (own : Option FieldWord) (k : Known) (s : Spot) (at : at_field k ≡ Some s) (swaps : FieldWord → ℕ → Known) (stays : (x : FieldWord) (n : ℕ) → StaysAt k (swaps x n)) where
  swaps_goes : (found : Finds) (x : FieldWord) (n : ℕ) → puts k found ≡ None → GoesTo own k found (swaps x n)
  swaps_goes found x n none = staying_goes own k found (swaps x n) s at none (stays x n)

  pub loaded_goes : (found : Finds) (t : Task) (x : FieldWord) → task_of k ≡ t → puts k found ≡ None → word_found found ≡ Some x → GoesTo own k found (loaded swaps acked (spot_of k) t x)
  loaded_goes found Reads x same none is = closes_goes acked own k found Reads x same tt none is
  loaded_goes found (Writes word) x same none is = swaps_goes found x 2 none
  loaded_goes found (Exchanges expected word) x same none is =
      by_test (GoesTo own k found) (is_same (value_of x) expected) (swaps x 2) (closes acked (spot_of k) (Exchanges expected word) x)
      (λ yes. swaps_goes found x 2 none)
      (λ no. closes_goes acked own k found (Exchanges expected word) x same no none is)

  ends_by : (found : Finds) (t : Task) (end : Ending) → task_of k ≡ t → EndsSo own k found end → GoesTo own k found (Over (spot_of k) t end)
  ends_by found t end same so = rw (← same) (over_goes own k found end so)

  raced_goes : (found : Finds) (t : Task) (x y : FieldWord) → task_of k ≡ t → puts k found ≡ None → Suits t (Refused (refusal.Raced (word_of x) (word_of y))) → GoesTo own k found (raced (spot_of k) t x y)
  raced_goes found t x y same none suits = ends_by found t (Refused (refusal.Raced (word_of x) (word_of y))) same (record { made = sym (ap is_some none); suits = rw same suits; hands = inl refl })

  again_goes : (found : Finds) (t : Task) (x y : FieldWord) (n : ℕ) → task_of k ≡ t → puts k found ≡ None → Suits t (Refused (refusal.Raced (word_of x) (word_of y))) → GoesTo own k found (again swaps (spot_of k) t x y n)
  again_goes found t x y zero same none suits = raced_goes found t x y same none suits
  again_goes found t x y (suc n) same none suits = swaps_goes found y n none

  lost_goes : (found : Finds) (t : Task) (x y : FieldWord) (n : ℕ) → task_of k ≡ t → puts k found ≡ None → word_found found ≡ Some y → GoesTo own k found (lost swaps acked (spot_of k) t x y n)
  lost_goes found Reads x y n same none is = closes_goes acked own k found Reads y same tt none is
  lost_goes found (Writes word) x y n same none is = again_goes found (Writes word) x y n same none tt
  lost_goes found (Exchanges expected word) x y n same none is =
      by_test (GoesTo own k found) (is_same (value_of y) expected) (again swaps (spot_of k) (Exchanges expected word) x y n) (closes acked (spot_of k) (Exchanges expected word) y)
      (λ yes. again_goes found (Exchanges expected word) x y n same none tt)
      (λ no. closes_goes acked own k found (Exchanges expected word) y same no none is)

  made_ends : (found : Finds) (t : Task) (y : FieldWord) → task_of k ≡ t → puts k found ≡ word_in t → word_found found ≡ Some y → EndsSo own k found (end_made t y)
  made_ends found Reads y same put is = record { made = sym (ap is_some put); suits = rw same tt; hands = inr (inr (inl (sym is))) }
  made_ends found (Writes word) y same put is = record { made = sym (ap is_some put); suits = rw same tt; hands = inl refl }
  made_ends found (Exchanges expected word) y same put is = record { made = sym (ap is_some put); suits = rw same tt; hands = inl refl }

  pub exchanged_goes : (found : Finds) (t : Task) (x y : FieldWord) (n : ℕ) → task_of k ≡ t → puts k found ≡ (if same_word y x then word_in t else None) → word_found found ≡ Some y → GoesTo own k found (exchanged swaps acked (spot_of k) t x y n)
  exchanged_goes found t x y n same put is =
      by_test (GoesTo own k found) (same_word y x) (Over (spot_of k) t (end_made t y)) (lost swaps acked (spot_of k) t x y n)
      (λ won. ends_by found t (end_made t y) same (made_ends found t y same (put ∙ ap (λ b. if b then word_in t else None) won) is))
      (λ not. lost_goes found t x y n same (put ∙ ap (λ b. if b then word_in t else None) not) is)

-- ---- to the original, and to the copy

pub spot_at : (k : Known) (s : Spot) → at_field k ≡ Some s → spot_of k ≡ s
spot_at (Follows z t m) s at = absurd (let gone : None ≡ Some s = at in cc)
spot_at (Over z t end) s at = absurd (let gone : None ≡ Some s = at in cc)
spot_at _ s at = cc

pub hand_at : (k : Known) (s : Spot) → at_field k ≡ Some s → (hand_of k ≡ word_in (task_of k)) × (writes_yet k ≡ word_in (task_of k))
hand_at (Follows z t m) s at = absurd (let gone : None ≡ Some s = at in cc)
hand_at (Over z t end) s at = absurd (let gone : None ≡ Some s = at in cc)
hand_at _ s at = (refl, refl)

pub goes_at : (k : Known) (s : Spot) (t : Task) (next : Known) → at_field k ≡ Some s → task_of k ≡ t → at_field next ≡ Some s → task_of next ≡ t → has_made next ≡ false → StaysAt k next
goes_at k s t next at task now same unmade =
    let was = hand_at k s at in
    let is = hand_at next s now in
    let tasks : task_of next ≡ task_of k = same ∙ sym task in
    record { spot = spot_at next s now ∙ sym (spot_at k s at); task = tasks; at = now ∙ sym at; unmade = unmade; hand = is.0 ∙ (ap word_in tasks ∙ sym was.0); writes = is.1 ∙ (ap word_in tasks ∙ sym was.1) }

pub original_stays : (k : Known) (s : Spot) (t : Task) → at_field k ≡ Some s → task_of k ≡ t → StaysAt k (to_original s t)
original_stays k s Reads at task = goes_at k s Reads (Loads s Reads) at task refl refl refl
original_stays k s (Writes word) at task = goes_at k s (Writes word) (Stores s word) at task refl refl refl
original_stays k s (Exchanges expected word) at task = goes_at k s (Exchanges expected word) (Loads s (Exchanges expected word)) at task refl refl refl

pub copy_stays : (k : Known) (s : Spot) (t : Task) (to : ℕ) → at_field k ≡ Some s → task_of k ≡ t → StaysAt k (to_copy s t to)
copy_stays k s Reads to at task = goes_at k s Reads (Loads_copy s Reads to) at task refl refl refl
copy_stays k s (Writes word) to at task = goes_at k s (Writes word) (Stores_copy s word to) at task refl refl refl
copy_stays k s (Exchanges expected word) to at task = goes_at k s (Exchanges expected word) (Loads_copy s (Exchanges expected word) to) at task refl refl refl

-- ---- every step at a plain word

abbrev pub IsPlain : Known → Type 0
IsPlain (Loads s t) = Unit {0}
IsPlain (Stores s word) = Unit {0}
IsPlain (Swaps s t x n) = Unit {0}
IsPlain (Loads_copy s t to) = Unit {0}
IsPlain (Stores_copy s word to) = Unit {0}
IsPlain (Swaps_copy s t to x n) = Unit {0}
IsPlain k = ⊥

pub stays_goes : (own : Option FieldWord) (k : Known) (found : Finds) (s : Spot) → at_field k ≡ Some s → puts k found ≡ None → GoesTo own k found k
stays_goes own k found s at none = staying_goes own k found k s at none (record { spot = refl; task = refl; at = refl; unmade = unmade k s at; hand = refl; writes = refl })
  where
    unmade : (k : Known) (s : Spot) → at_field k ≡ Some s → has_made k ≡ false
    unmade (Over z t end) s at = absurd (let gone : None ≡ Some s = at in cc)
    unmade _ s at = refl

pub plainly_goes : (acked : Stance) (own : Option FieldWord) (k : Known) (found : Finds) → IsPlain k → GoesTo own k found (plainly_fed acked k found)
plainly_goes acked own (Loads s t) (Field_word x) is = loaded_goes acked own (Loads s t) s refl (Swaps s t) (λ y n. record { spot = refl; task = refl; at = refl; unmade = refl; hand = refl; writes = refl }) (Field_word x) t x refl refl refl
plainly_goes acked own (Loads s t) found is = stays_goes own (Loads s t) found s refl refl
plainly_goes acked own (Stores s word) found is = over_goes own (Stores s word) found Wrote (record { made = refl; suits = tt; hands = inl refl })
plainly_goes acked own (Swaps s t x n) (Field_word y) is = exchanged_goes acked own (Swaps s t x n) s refl (Swaps s t) (λ y n. record { spot = refl; task = refl; at = refl; unmade = refl; hand = refl; writes = refl }) (Field_word y) t x y n refl refl refl
plainly_goes acked own (Swaps s t x n) found is = stays_goes own (Swaps s t x n) found s refl refl
plainly_goes acked own (Loads_copy s t to) (Field_word x) is = loaded_goes acked own (Loads_copy s t to) s refl (Swaps_copy s t to) (λ y n. record { spot = refl; task = refl; at = refl; unmade = refl; hand = refl; writes = refl }) (Field_word x) t x refl refl refl
plainly_goes acked own (Loads_copy s t to) found is = stays_goes own (Loads_copy s t to) found s refl refl
plainly_goes acked own (Stores_copy s word to) found is = over_goes own (Stores_copy s word to) found Wrote (record { made = refl; suits = tt; hands = inl refl })
plainly_goes acked own (Swaps_copy s t to x n) (Field_word y) is = exchanged_goes acked own (Swaps_copy s t to x n) s refl (Swaps_copy s t to) (λ y n. record { spot = refl; task = refl; at = refl; unmade = refl; hand = refl; writes = refl }) (Field_word y) t x y n refl refl refl
plainly_goes acked own (Swaps_copy s t to x n) found is = stays_goes own (Swaps_copy s t to x n) found s refl refl
plainly_goes acked own k found is = absurd is

-- ---- an object has no such field, or the call goes on

pub where_goes : (own : Option FieldWord) (k : Known) (found : Finds) (s : Spot) (len : ℕ) (next : Known) → at_field k ≡ Some s → puts k found ≡ None → StaysAt k next → GoesTo own k found (where_field (spot_of k) (task_of k) len next)
where_goes own k found s len next at none stays =
    by_test (GoesTo own k found) (nat_lt (spot_of k).field len) next (no_field (spot_of k) (task_of k) len)
    (λ yes. staying_goes own k found next s at none stays)
    (λ no. over_goes own k found (Refused (refusal.NoField len)) (record { made = sym (ap is_some none); suits = suits (task_of k); hands = inl refl }))
  where
    suits : (t : Task) → Suits t (Refused (refusal.NoField len))
    suits Reads = tt
    suits (Writes word) = tt
    suits (Exchanges expected word) = tt

pub where_holds : (P : Known → Type 0) (s : Spot) (t : Task) (len : ℕ) (next : Known) → (s.field < len → P next) → (len ≤ s.field → P (no_field s t len)) → P (where_field s t len next)
where_holds P s t len next there none = by_test P (nat_lt s.field len) next (no_field s t len) (λ yes. there (grind (arith, nat_tests, yes))) (λ no. none (grind (arith, nat_tests, no)))

-- ---- what is so of each call that it may become

-- the exchange that it goes on to
abbrev pub swaps_of : Known → FieldWord → ℕ → Known
swaps_of (Loads s t) = Swaps s t
swaps_of (Swaps s t x n) = Swaps s t
swaps_of (Loads_copy s t to) = Swaps_copy s t to
swaps_of (Swaps_copy s t to x n) = Swaps_copy s t to
swaps_of k = λ x n. k

module _ (P : Known → Type 0) (acked : Stance) (s : Spot) (swaps : FieldWord → ℕ → Known) where
  pub loaded_holds : (t : Task) (x : FieldWord) → ((n : ℕ) → P (swaps x n)) → ((birth at : ℕ) → x ≡ Link birth at → P (Follows s t (follow.Header birth at))) → ((end : Ending) → P (Over s t end)) → P (loaded swaps acked s t x)
  loaded_holds Reads x on follows over = closes_cases P acked s Reads x follows (over (found_ending Reads x))
  loaded_holds (Writes word) x on follows over = on 2
  loaded_holds (Exchanges expected word) x on follows over =
      by_test P (is_same (value_of x) expected) (swaps x 2) (closes acked s (Exchanges expected word) x) (λ q. on 2) (λ q. closes_cases P acked s (Exchanges expected word) x follows (over (found_ending (Exchanges expected word) x)))

  again_holds : (t : Task) (x y : FieldWord) (n : ℕ) → ((n : ℕ) → P (swaps y n)) → ((end : Ending) → P (Over s t end)) → P (again swaps s t x y n)
  again_holds t x y zero on over = over (Refused (refusal.Raced (word_of x) (word_of y)))
  again_holds t x y (suc n) on over = on n

  lost_holds : (t : Task) (x y : FieldWord) (n : ℕ) → ((n : ℕ) → P (swaps y n)) → ((birth at : ℕ) → y ≡ Link birth at → P (Follows s t (follow.Header birth at))) → ((end : Ending) → P (Over s t end)) → P (lost swaps acked s t x y n)
  lost_holds Reads x y n on follows over = closes_cases P acked s Reads y follows (over (found_ending Reads y))
  lost_holds (Writes word) x y n on follows over = again_holds (Writes word) x y n on over
  lost_holds (Exchanges expected word) x y n on follows over =
      by_test P (is_same (value_of y) expected) (again swaps s (Exchanges expected word) x y n) (closes acked s (Exchanges expected word) y)
      (λ q. again_holds (Exchanges expected word) x y n on over) (λ q. closes_cases P acked s (Exchanges expected word) y follows (over (found_ending (Exchanges expected word) y)))

  pub exchanged_holds : (t : Task) (x y : FieldWord) (n : ℕ) → ((n : ℕ) → P (swaps y n)) → ((birth at : ℕ) → y ≡ Link birth at → P (Follows s t (follow.Header birth at))) → ((end : Ending) → P (Over s t end)) → P (exchanged swaps acked s t x y n)
  exchanged_holds t x y n on follows over = by_test P (same_word y x) (Over s t (end_made t y)) (lost swaps acked s t x y n) (λ q. over (end_made t y)) (λ q. lost_holds t x y n on follows over)

pub plainly_holds : (P : Known → Type 0) (acked : Stance) (k : Known) (found : Finds) → IsPlain k → P k → ((x : FieldWord) (n : ℕ) → found ≡ Field_word x → P (swaps_of k x n))
    → ((birth at : ℕ) → found ≡ Field_word (Link birth at) → P (Follows (spot_of k) (task_of k) (follow.Header birth at))) → ((end : Ending) → P (Over (spot_of k) (task_of k) end)) → P (plainly_fed acked k found)
plainly_holds P acked (Loads s t) (Field_word x) is was on follows over = loaded_holds P acked s (Swaps s t) t x (λ n. on x n refl) (λ birth at same. follows birth at (ap Field_word same)) over
plainly_holds P acked (Loads s t) found is was on follows over = was
plainly_holds P acked (Stores s word) found is was on follows over = over Wrote
plainly_holds P acked (Swaps s t x n) (Field_word y) is was on follows over = exchanged_holds P acked s (Swaps s t) t x y n (λ m. on y m refl) (λ birth at same. follows birth at (ap Field_word same)) over
plainly_holds P acked (Swaps s t x n) found is was on follows over = was
plainly_holds P acked (Loads_copy s t to) (Field_word x) is was on follows over = loaded_holds P acked s (Swaps_copy s t to) t x (λ n. on x n refl) (λ birth at same. follows birth at (ap Field_word same)) over
plainly_holds P acked (Loads_copy s t to) found is was on follows over = was
plainly_holds P acked (Stores_copy s word to) found is was on follows over = over Wrote
plainly_holds P acked (Swaps_copy s t to x n) (Field_word y) is was on follows over = exchanged_holds P acked s (Swaps_copy s t to) t x y n (λ m. on y m refl) (λ birth at same. follows birth at (ap Field_word same)) over
plainly_holds P acked (Swaps_copy s t to x n) found is was on follows over = was
plainly_holds P acked k found is was on follows over = absurd is
