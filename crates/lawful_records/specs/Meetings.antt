-- The objects that a pass names are in the heap that it has seen.
use Rattle.std.specs.Prelude.{◌≡◌, ℕ, ◌<◌, true, List, Option, Some, None}
use Rattle.heap_words.specs.declared.limits.TheConstants.{NUMBER_LIMIT}
use Rattle.heap_words.specs.declared.field_word.FieldWord.{FieldWord}
use Rattle.heap_words.specs.declared.field_word.FieldWord.TheVariants.{Num, Link}
use Rattle.heap_history.specs.NewestFirst.{len_at}
use Rattle.heap_history.specs.declared.call.Call.{Call}
use Rattle.handshakes.specs.Polling.{held_in}
use Rattle.barriers.specs.declared.ends.NewEnd.TheVariants as new_end
use Rattle.barriers.specs.declared.new_object.NewMachine.TheVariants as make
use Rattle.barriers.specs.States.{On}
use Rattle.barriers.specs.Knowns.{Known, has_found, spot_of, task_of, word_in, hand_of}
use Rattle.barriers.specs.Protocols.{OnHand}
use Rattle.barriers.specs.Kits.{Kit}
use Rattle.lawful_records.specs.Records.{known_of, registers_by}
use Rattle.barriers.specs.declared.pass.PassMachine.{PassMachine}
use Rattle.barriers.specs.declared.pass.PassMachine.TheVariants as machine
use Rattle.lawful_records.specs.declared.records.PassKnown.{PassKnown}

-- the heap after these changes has the object
abbrev pub IsThere : List Call → ℕ → Type 0
IsThere h birth = (len : ℕ) × (len_at h birth ≡ Some len)

-- it has the object that a word names
abbrev pub IsNamed : List Call → FieldWord → Type 0
IsNamed h word = On (λ birth at. IsThere h birth) word

-- a number in hand fits a word
abbrev pub FitsHand : Option FieldWord → Type 0
FitsHand None = Unit {0}
FitsHand (Some (Num n)) = n < NUMBER_LIMIT
FitsHand (Some (Link birth at)) = Unit {0}

-- the heap has the object that a call is about, with the field once that was found, and what the call is to write, and a number in hand fits
pub record HasSpot (h : List Call) (k : Known) : Type 0 where
  pub len : ℕ
  pub there : len_at h (let s = spot_of k in s.birth) ≡ Some len
  pub inside : has_found k ≡ true → (let s = spot_of k in s.field) < len
  pub word : OnHand (λ birth at. IsThere h birth) (word_in (task_of k))
  pub hand : FitsHand (hand_of k)

abbrev pub HasSpotOf : List Call → Option Known → Type 0
HasSpotOf h None = Unit {0}
HasSpotOf h (Some k) = HasSpot h k

-- the heap has the object that was made
abbrev pub HasMade : {R W E : Type 0} → List Call → PassMachine R W E → Type 0
HasMade h (machine.New (make.Ended (new_end.Made birth at room))) = IsThere h birth
HasMade h m = Unit {0}

module _ {R W E M : Type 0} (kit : Kit R W E M) where
  -- the heap that a pass has seen has all objects that it names
  pub record HasMet (p : PassKnown R W E) : Type 0 where
    pub registers : (i : ℕ) → IsNamed p.seen (held_in (registers_by p.pass.machine p.pass.registers) i)
    pub call : HasSpotOf p.seen (known_of kit p.pass.machine)
    pub made : HasMade p.seen p.pass.machine
