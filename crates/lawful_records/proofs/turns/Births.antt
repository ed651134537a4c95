-- A birth number that a pass has not given yet: the heap makes an object of it, and has it then.
use Rattle.std.proofs.Common.{◌≡◌, ℕ, ◌+◌, ◌<◌, ◌^◌, true, List, ◌∷◌, length, Option, Some, None, refl, ap, ◌∙◌, arith}
use Rattle.std.specs.Prelude.{IsTrue}
use Rattle.std.specs.Option.{option_map}
use Rattle.std.proofs.lemmas.Bool.Decides.{nat_tests}
use Rattle.std.proofs.Math.ListN.{length-replicate}
use Rattle.heap_words.specs.Layouts.{Sizes, IsLayout, IsPass}
use Rattle.heap_history.specs.FixedHeaps.{Heap, answer, changed, fields_of, zeros, is_birth_of}
use Rattle.heap_history.specs.Histories.{is_change}
use Rattle.heap_history.specs.HistoryLaws.{fields_of-new, fields_of-new_other}
use Rattle.heap_history.specs.NewestFirst.{heap_of_history, len_at}
use Rattle.heap_history.specs.declared.call.Call.{Call}
use Rattle.heap_history.specs.declared.call.Call.TheVariants.{NewObject}
use Rattle.heap_history.specs.declared.call.Reply.TheVariants.{Made}
use Rattle.heap_history.specs.declared.call.Value.{Value}
use Rattle.barriers.specs.NewObjects.{next_birth}
use Rattle.barriers.specs.Kits.{Kit}
use Rattle.lawful_records.specs.LawfulRecords.{IsUnborn}

birth_of : (pass made : ℕ) → made < 262144 → is_birth_of pass (next_birth pass made) ≡ true
birth_of pass made few = grind (arith, nat_tests)

none_of : (found : Option (List Value)) → option_map length found ≡ None → found ≡ None
none_of None none = refl
none_of (Some values) none = absurd cc

-- it fits the header
pub birth_fits : (l : Sizes) (pass made : ℕ) → IsLayout l → IsPass l pass → made < 262144 → (0 < next_birth pass made) × (next_birth pass made < 2 ^ 24)
birth_fits l pass made fits is few = (omega arith, omega (arith, is.1, fits.passes.1))

module _ {R W E M : Type 0} (kit : Kit R W E M) (h : List Call) (pass made len : ℕ) (few : made < 262144) (unborn : IsUnborn kit h pass made) where
  abbrev birth : ℕ
  birth = next_birth pass made

  abbrev call : Call
  call = NewObject pass birth len

  unknown : fields_of (heap_of_history h) birth ≡ None
  unknown = none_of (fields_of (heap_of_history h) birth) (unborn birth (omega arith) (omega (arith, few)))

  pub answered_made : answer (heap_of_history h) call ≡ Made
  answered_made = rw (birth_of pass made few, unknown) refl

  after_is : heap_of_history (call ∷ h) ≡ changed (heap_of_history h) call Made
  after_is = ap (changed (heap_of_history h) call) answered_made

  pub change_fits : IsTrue (is_change (answer (heap_of_history h) call))
  change_fits = ap is_change answered_made

  -- the object is there then
  pub there_then : len_at (call ∷ h) birth ≡ Some len
  there_then =
      ap (λ (heap : Heap). option_map length (fields_of heap birth)) after_is
      ∙ (ap (option_map length) (fields_of-new (heap_of_history h) birth (zeros len)) ∙ ap Some (length-replicate len _))

  -- and the next ones are not
  pub unborn_then : IsUnborn kit (call ∷ h) pass (made + 1)
  unborn_then b later last =
      ap (λ (heap : Heap). option_map length (fields_of heap b)) after_is
      ∙ (ap (option_map length) (fields_of-new_other (heap_of_history h) birth (zeros len) b (λ same. omega (arith, same, later))) ∙ unborn b (omega (arith, later)) last)
