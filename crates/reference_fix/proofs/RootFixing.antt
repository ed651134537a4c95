-- The fix of a root word stays that of its root word until it ends.
use Rattle.std.proofs.Common.{◌≡◌, ◌≢◌, ℕ, Option, Some, None, refl, subst}
use Rattle.call_steps.specs.declared.step.Step.TheVariants.{Ended}
use Rattle.heap_words.specs.FieldWords.{field_at}
use Rattle.object_headers.specs.Headers.{header_at}
use Rattle.reference_fix.specs.declared.root_fix.RootFixMachine.{RootFixMachine}
use Rattle.reference_fix.specs.declared.root_fix.RootFixMachine.TheVariants as fix
use Rattle.reference_fix.specs.MovedLinks.{leads_to, moved_link}
use Rattle.reference_fix.specs.RootFixes.{asks_of, led, looked_at, putting, fed_of, end_of, IsRootFixOf}

led_of : (at word : ℕ) (o : Option ℕ) → leads_to (field_at word) ≡ o → end_of (led at word o) ≡ None → IsRootFixOf at (led at word o)
led_of at word None is on = absurd (cc on)
led_of at word (Some to) is on = (refl, is)

put_of : (at place : ℕ) (o : Option ℕ) → place ≡ at → end_of (putting place o) ≡ None → IsRootFixOf at (putting place o)
put_of at place None same on = absurd (cc on)
put_of at place (Some put) same on = same

pub root_on : (at : ℕ) (m : RootFixMachine) (word : ℕ) → IsRootFixOf at m → end_of (fed_of m word) ≡ None → IsRootFixOf at (fed_of m word)
root_on at (fix.Root place) word is on = subst (λ y. IsRootFixOf y (looked_at place word)) is (led_of place word (leads_to (field_at word)) refl on)
root_on at (fix.Header place found to) word is on = put_of at place (moved_link (field_at found) (header_at word)) is.0 on
root_on at (fix.Store place put) word is on = absurd (cc on)
root_on at fix.Ended word is on = absurd is

pub root_asks : (at : ℕ) (m : RootFixMachine) → IsRootFixOf at m → asks_of m ≢ Ended
root_asks at (fix.Root place) is = λ e. cc e
root_asks at (fix.Header place found to) is = λ e. cc e
root_asks at (fix.Store place put) is = λ e. cc e
root_asks at fix.Ended is = absurd is
