-- A search has come as far as it had under the turns of passes.
use Rattle.std.specs.Prelude.{◌<◌}
use Rattle.std.proofs.Common.{inl, inr, ◌≡◌, ◌≢◌, ℕ, ◌+◌, true, false, Option, refl, sym, ap, ◌∙◌, subst}
use Rattle.heap_words.specs.Layouts.{Sizes}
use Rattle.heap_words.specs.declared.field_word.FieldWord.{FieldWord}
use Rattle.heap_words.specs.declared.field_word.FieldWord.TheVariants.{Num}
use Rattle.object_headers.specs.declared.change.Kind.{Kind}
use Rattle.object_headers.specs.declared.header.Colour.{Colour}
use Rattle.object_headers.specs.Changes.{is_clover}
use Rattle.space_reclaim.specs.declared.region_word.RegionWord.{RegionWord}
use Rattle.heap_history.specs.declared.call.Call.{Call}
use Rattle.mark_search.specs.declared.seek.SeekMarkMachine.{SeekMarkMachine}
use Rattle.mark_search.specs.declared.seek.SeekMarkMachine.TheVariants as seek
use Rattle.mark_search.specs.Seeks.{address}
use Rattle.mark_search.specs.SeekRuns.{cursor_of}
use Rattle.barriers.specs.Sets.{set}
use Rattle.barriers.specs.States.{Absent, Plain, Kept, IsHome, IsLive}
use Rattle.barriers.specs.Stances.{Free, Retired}
use Rattle.barriers.specs.Spaces.{Space, is_mark}
use Rattle.barriers.specs.Says.{put_region, append}
use Rattle.barriers.specs.Cycles.{Cycle, Side}
use Rattle.barriers.specs.Protocols.{Protocol}
use Rattle.barriers.proofs.words.Sets.{set_cases, set_here, set_else}
use Rattle.lawful_records.specs.Frames.{IsSameAt, Left, Same, Untagged, Born, KeepsFields, Leaves, LeavesSearch}
use Rattle.lawful_records.specs.Searches.{HasPassed, IsBegun, IsAtObject, HasSought}

-- ---- turns that change no object

pub search_same : (kind : Kind) (c : Cycle) (side : Side) (s : Space) → LeavesSearch kind c side s s
search_same kind c side s = record { begun = λ region at begun. begun; unmarked = λ clover running same a f home less. inl (home, less, refl) }

pub search_region : (kind : Kind) (c : Cycle) (side : Side) (s : Space) (k : ℕ) (x : RegionWord) → LeavesSearch kind c side s (put_region s k x)
search_region kind c side s k x = record { begun = λ region at begun. begun; unmarked = λ clover running same a f home less. inl (home, less, refl) }

-- ---- a new object

-- its fields are 0, which is not the mark
pub search_append : (kind : Kind) (c : Cycle) (side : Side) (s : Space) (k len birth : ℕ) (colour : Colour) (call : Call) → is_mark c.mark (Num 0) ≡ false → LeavesSearch kind c side s (append s k len birth colour call)
search_append kind c side s k len birth colour call zero = record {
  begun = begun_on;
  unmarked = λ clover running same a f home less. elim (set_cases s.field (s.ends k) a (λ f. Num 0)) [
    | inl new ↦ inr (subst (λ (fields : ℕ → FieldWord). is_mark c.mark (fields f) ≡ false) (sym new.1) zero)
    | inr old ↦ inl (
      subst IsHome (set_else s.state (s.ends k) a Plain old.0) home,
      subst (λ (n : ℕ). f < n) (set_else s.len (s.ends k) a len old.0) less,
      ap (λ (fields : ℕ → FieldWord). fields f) old.1,
    )
  ];
} where
  there_on : (at : ℕ) → s.state at ≢ Absent → set s.state (s.ends k) Plain at ≢ Absent
  there_on at there = elim (set_cases s.state (s.ends k) at Plain) [ inl new ↦ λ none. (let gone : Plain ≡ Absent = sym new.1 ∙ none in cc gone) | inr old ↦ λ none. there (sym old.1 ∙ none) ]

  begun_on : (region at : ℕ) → IsBegun s region at → IsBegun (append s k len birth colour call) region at
  begun_on region at (inl there) = inl (there_on at there)
  begun_on region at (inr ends) = elim (set_cases s.ends k region (s.ends k + 1 + len)) [
    | inl here ↦
        let place : s.ends k ≡ at = ap s.ends (sym here.0) ∙ ends in
        inl (subst (λ (x : ℕ). set s.state (s.ends k) Plain x ≢ Absent) place (λ none. (let gone : Plain ≡ Absent = sym (set_here s.state (s.ends k) Plain) ∙ none in cc gone)))
    | inr other ↦ inr (other.1 ∙ ends)
  ]

pub fields_append : (put : Option FieldWord) (s : Space) (k len birth : ℕ) (colour : Colour) (call : Call) → KeepsFields put s (append s k len birth colour call)
fields_append put s k len birth colour call a f home less = elim (set_cases s.field (s.ends k) a (λ f. Num 0)) [
  | inl new ↦ inr (inl (ap (λ (fields : ℕ → FieldWord). fields f) new.1))
  | inr old ↦ inl (
    subst IsHome (set_else s.state (s.ends k) a Plain old.0) home,
    subst (λ (n : ℕ). f < n) (set_else s.len (s.ends k) a len old.0) less,
    ap (λ (fields : ℕ → FieldWord). fields f) old.1,
  )
]

-- ---- what a turn leaves

pub left_there : (P : Protocol) (l : Sizes) (s t : Space) (at : ℕ) → Left P l s t at → s.state at ≢ Absent → t.state at ≢ Absent
left_there P l s t at (Same same) there = λ none. there (sym same.state ∙ none)
left_there P l s t at (Untagged makes was is seal wide) there = λ none. (let gone : Kept ≡ Absent = sym is ∙ none in cc gone)
left_there P l s t at (Born was is seal wide own) there = absurd (there was)

module _ (P : Protocol) (l : Sizes) (c : Cycle) (s t : Space) (leaves : Leaves P l c s t) (heads : (at : ℕ) → IsLive (s.state at) → IsSameAt s t at) where
  len_on : (at : ℕ) → Left P l s t at → s.state at ≢ Absent → t.len at ≡ s.len at
  len_on at (Same same) there = let head = same.head there in head.1
  len_on at (Untagged makes was is seal wide) there = (heads at (rw was tt)).len
  len_on at (Born was is seal wide own) there = absurd (there was)

  module _ (kind : Kind) (side : Side) (search : LeavesSearch kind c side s t) where
    at_stays : (m : SeekMarkMachine) → IsAtObject l s m → IsAtObject l t m
    at_stays (seek.Header q u) is = search.begun u.region (address q u) is
    at_stays (seek.Field q u len field) is = (left_there P l s t (address q u) (leaves.left (address q u)) is.0, len_on (address q u) (leaves.left (address q u)) is.0 ∙ is.1)
    at_stays m is = tt

    passed_stays : is_clover kind ≡ true → c.phase ≢ Free → (side.acked ≢ Retired → side.own ≡ c.mark) → (end : ℕ) → HasPassed c s end → HasPassed c t end
    passed_stays clover running same end passed a f home less below = elim (search.unmarked clover running same a f home less) [
      | inl was ↦ subst (λ (w : FieldWord). is_mark c.mark w ≡ false) (sym was.2) (passed a f was.0 was.1 below)
      | inr other ↦ other
    ]

    -- where the pass has the mark that is sought
    pub sought_stays : is_clover kind ≡ true → c.phase ≢ Free → (side.acked ≢ Retired → side.own ≡ c.mark) → (m : SeekMarkMachine) → HasSought l c s m → HasSought l c t m
    sought_stays clover running same m is = record { at = at_stays m is.at; passed = passed_stays clover running same (cursor_of m) is.passed }
