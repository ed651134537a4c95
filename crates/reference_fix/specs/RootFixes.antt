-- The fixing of a root word.
use Rattle.std.specs.Prelude.{◌≡◌, ◌≢◌, ℕ, ◌<◌, Option, Some, None, refl}
use Rattle.std.proofs.Common.{lit<, arith}
use Rattle.call_steps.specs.declared.step.Step.{Step}
use Rattle.call_steps.specs.declared.step.Step.TheVariants.{Load, Store, Ended}
use Rattle.heap_words.specs.FieldWords.{field_at}
use Rattle.object_headers.specs.Headers.{header_at}
use Rattle.reference_fix.specs.declared.root_fix.RootFixMachine.{RootFixMachine}
use Rattle.reference_fix.specs.declared.root_fix.RootFixMachine.TheVariants as fix
use Rattle.reference_fix.specs.MovedLinks.{leads_to, moved_link, IsMoved}

abbrev pub asks_of : RootFixMachine → Step
asks_of (fix.Root at) = Load at
asks_of (fix.Header at word to) = Load to
asks_of (fix.Store at put) = Store at put
asks_of fix.Ended = Ended

-- a link leads to a header
abbrev pub led : ℕ → ℕ → Option ℕ → RootFixMachine
led at word None = fix.Ended
led at word (Some to) = fix.Header at word to

-- with the root word at hand
abbrev pub looked_at : ℕ → ℕ → RootFixMachine
looked_at at word = led at word (leads_to (field_at word))

-- what is put in place of the word, if anything is
abbrev pub putting : ℕ → Option ℕ → RootFixMachine
putting at None = fix.Ended
putting at (Some put) = fix.Store at put

-- with the header at hand
abbrev pub known : ℕ → ℕ → ℕ → RootFixMachine
known at word header = putting at (moved_link (field_at word) (header_at header))

abbrev pub fed_of : RootFixMachine → ℕ → RootFixMachine
fed_of (fix.Root at) found = looked_at at found
fed_of (fix.Header at word to) found = known at word found
fed_of (fix.Store at put) found = fix.Ended
fed_of fix.Ended found = fix.Ended

abbrev pub left_of : RootFixMachine → ℕ
left_of (fix.Root at) = 3
left_of (fix.Header at word to) = 2
left_of (fix.Store at put) = 1
left_of fix.Ended = 0

-- whether it has ended
abbrev pub end_of : RootFixMachine → Option (Unit {0})
end_of (fix.Root at) = None
end_of (fix.Header at word to) = None
end_of (fix.Store at put) = None
end_of fix.Ended = Some tt

-- the fix of the root word at this address, which has not ended
abbrev pub IsRootFixOf : ℕ → RootFixMachine → Type 0
IsRootFixOf at (fix.Root place) = place ≡ at
IsRootFixOf at (fix.Header place word to) = (place ≡ at) × (leads_to (field_at word) ≡ Some to)
IsRootFixOf at (fix.Store place put) = place ≡ at
IsRootFixOf at fix.Ended = ⊥

-- Whatever words it finds: it loads the root word and the header to which the link there leads; a store puts the link to the object's new place, and comes exactly where there is one; and then it has ended.
pub record FixesRoot (at : ℕ) (m : RootFixMachine) : Type 0 where
  pub loads : asks_of m ≡ Load at
  pub follows : (word to : ℕ) → leads_to (field_at word) ≡ Some to → asks_of (fed_of m word) ≡ Load to
  pub leaves : (word : ℕ) → leads_to (field_at word) ≡ None → asks_of (fed_of m word) ≡ Ended
  pub puts : (word header put : ℕ) → moved_link (field_at word) (header_at header) ≡ Some put → (asks_of (fed_of (fed_of m word) header) ≡ Store at put) × IsMoved word header put
  pub rests : (word header : ℕ) → moved_link (field_at word) (header_at header) ≡ None → asks_of (fed_of (fed_of m word) header) ≡ Ended
  pub ends : (word header found : ℕ) → asks_of (fed_of (fed_of (fed_of m word) header) found) ≡ Ended

pub blind_of : (m : RootFixMachine) (at put n : ℕ) → asks_of m ≡ Store at put → fed_of m n ≡ fed_of m 0
blind_of (fix.Root its) at put n is = absurd cc
blind_of (fix.Header its word to) at put n is = absurd cc
blind_of (fix.Store its new) at put n is = refl
blind_of fix.Ended at put n is = refl

pub none_left_of : (m : RootFixMachine) → asks_of m ≡ Ended → left_of m ≡ 0
none_left_of (fix.Root at) is = absurd cc
none_left_of (fix.Header at word to) is = absurd cc
none_left_of (fix.Store at put) is = absurd cc
none_left_of fix.Ended is = refl

pub some_left_of : (m : RootFixMachine) → left_of m ≡ 0 → asks_of m ≡ Ended
some_left_of (fix.Root at) is = absurd (omega arith)
some_left_of (fix.Header at word to) is = absurd (omega arith)
some_left_of (fix.Store at put) is = absurd (omega arith)
some_left_of fix.Ended is = refl

led_left : (at word : ℕ) (o : Option ℕ) → left_of (led at word o) < 3
led_left at word None = lit< tt
led_left at word (Some to) = lit< tt

putting_left : (at : ℕ) (o : Option ℕ) → left_of (putting at o) < 2
putting_left at None = lit< tt
putting_left at (Some put) = lit< tt

pub falls_of : (m : RootFixMachine) (n : ℕ) → asks_of m ≢ Ended → left_of (fed_of m n) < left_of m
falls_of (fix.Root at) n on = led_left at n (leads_to (field_at n))
falls_of (fix.Header at word to) n on = putting_left at (moved_link (field_at word) (header_at n))
falls_of (fix.Store at put) n on = lit< tt
falls_of fix.Ended n on = absurd (on refl)
