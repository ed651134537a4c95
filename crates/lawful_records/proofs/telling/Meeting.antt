-- The objects that a pass names stay in the heap that it has seen.
use Rattle.std.specs.Prelude.{IsTrue}
use Rattle.std.proofs.Common.{arith, inl, inr, ◌≡◌, ℕ, ◌<◌, List, Bool, true, false, Option, Some, None, refl, sym, ap, ◌∙◌, subst}
use Rattle.heap_words.specs.FieldWords.{IsFieldWord}
use Rattle.heap_words.specs.declared.field_word.FieldWord.{FieldWord}
use Rattle.heap_words.specs.declared.field_word.FieldWord.TheVariants.{Num, Link}
use Rattle.heap_history.specs.FixedHeaps.{fields_of, is_there}
use Rattle.heap_history.specs.NewestFirst.{heap_of_history, Before, len_at}
use Rattle.heap_history.specs.ObjectLaws.{there_len}
use Rattle.heap_history.specs.ValueLaws.{len_at-before, value_there}
use Rattle.heap_history.specs.declared.call.Call.{Call}
use Rattle.heap_history.specs.declared.call.Value.{Value}
use Rattle.barriers.specs.declared.spot.Spot.{Spot}
use Rattle.wide_objects.specs.Statuses.{InOriginal, InWide, InCopy}
use Rattle.barriers.specs.Says.{FitsTask, FitsFound}
use Rattle.barriers.specs.Values.{value_of}
use Rattle.barriers.specs.Knowns.{Known, Task, Reads, Writes, Exchanges, Finds, Field_word, Wide_word, has_found, spot_of, task_of, word_in, hand_of}
use Rattle.barriers.specs.Protocols.{Answers, OnHand, From, word_found}
use Rattle.lawful_records.specs.Meetings.{IsThere, IsNamed, FitsHand, HasSpot}

-- ---- later heaps

pub there_later : (early late : List Call) (birth : ℕ) → Before early late → IsThere early birth → IsThere late birth
there_later early late birth before there = (there.0, len_at-before early late birth there.0 before there.1)

pub named_later : (early late : List Call) (word : FieldWord) → Before early late → IsNamed early word → IsNamed late word
named_later early late (Num n) before named = tt
named_later early late (Link birth at) before named = there_later early late birth before named

hand_later : (early late : List Call) (hand : Option FieldWord) → Before early late → OnHand (λ birth at. IsThere early birth) hand → OnHand (λ birth at. IsThere late birth) hand
hand_later early late None before named = tt
hand_later early late (Some word) before named = named_later early late word before named

-- ---- words

-- it names what another of the same value names
pub named_same : (h : List Call) (before now : FieldWord) → value_of now ≡ value_of before → IsNamed h before → IsNamed h now
named_same h before (Num n) same named = tt
named_same h (Num n) (Link birth at) same named = absurd cc
named_same h (Link other there) (Link birth at) same named = let is : other ≡ birth = cc in subst (IsThere h) is named

-- what was found is there
pub found_named : (seen : List Call) (s : Spot) (t : Task) (word : FieldWord) → Answers seen s t word → IsNamed seen word
found_named seen s t (Num n) answers = tt
found_named seen s t (Link birth at) answers =
    let P : Value → Type 0 = λ value. IsTrue (is_there (heap_of_history seen) value) in
    there_len (fields_of (heap_of_history seen) birth) (subst P (sym answers.value) (value_there seen s.birth s.field))

-- ---- the word in hand

-- it fits where the one before, the one found and the pass's mark do
pub hand_from : (own before found now : Option FieldWord) → From own before found now → FitsHand own → FitsHand before → FitsHand found → FitsHand now
hand_from own before found now (inl none) mark was is = subst FitsHand (sym none) tt
hand_from own before found now (inr (inl same)) mark was is = subst FitsHand (sym same) was
hand_from own before found now (inr (inr (inl same))) mark was is = subst FitsHand (sym same) is
hand_from own before found now (inr (inr (inr same))) mark was is = subst FitsHand (sym same) mark

hand_fits : (word : FieldWord) → IsFieldWord word → FitsHand (Some word)
hand_fits (Num n) fits = fits
hand_fits (Link birth at) fits = tt

-- a word that is found does
pub hand_found : (found : Finds) → FitsFound found → FitsHand (word_found found)
hand_found (Field_word word) fits = hand_fits word fits
hand_found (Wide_word InOriginal) fits = omega arith
hand_found (Wide_word (InWide word)) fits = hand_fits word fits
hand_found (Wide_word (InCopy word)) fits = hand_fits word fits
hand_found found fits = tt

-- and so does the word of a call that begins
pub hand_task : (t : Task) → FitsTask t → FitsHand (word_in t)
hand_task Reads fits = tt
hand_task (Writes word) fits = hand_fits word fits
hand_task (Exchanges expected word) fits = hand_fits word fits

-- ---- calls

-- the call goes on, at the same field with the same task
pub spot_later : (early late : List Call) (k next : Known) → Before early late → spot_of next ≡ spot_of k → task_of next ≡ task_of k → (has_found next ≡ true → has_found k ≡ false → (len : ℕ) → len_at late (let s = spot_of k in s.birth) ≡ Some len → (let s = spot_of k in s.field) < len) → FitsHand (hand_of next) → HasSpot early k → HasSpot late next
spot_later early late k next before spot task found small met = record {
  len = met.len;
  there = ap (λ (s : Spot). len_at late s.birth) spot ∙ there;
  inside = λ is. subst (λ (s : Spot). s.field < met.len) (sym spot) (inside is (has_found k) refl);
  word = subst (λ (t : Task). OnHand (λ birth at. IsThere late birth) (word_in t)) (sym task) (hand_later early late (word_in (task_of k)) before met.word);
  hand = small;
} where
  there : len_at late (let s = spot_of k in s.birth) ≡ Some met.len
  there = len_at-before early late (let s = spot_of k in s.birth) met.len before met.there

  inside : has_found next ≡ true → (was : Bool) → has_found k ≡ was → (let s = spot_of k in s.field) < met.len
  inside is true was = met.inside was
  inside is false was = found is was met.len there
