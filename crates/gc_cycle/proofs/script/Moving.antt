-- What a turn of a thread changes of what was seen and told.
use Rattle.std.proofs.Common.{◌≡◌, ◌≢◌, ℕ, ◌+◌, ◌-◌, ◌≤◌, Bool, true, false, cond, List, length, get_or, Option, Some, None, sym, ap, ◌∙◌, subst, arith}
use Rattle.std.proofs.lemmas.Option.{same_Some}
use Rattle.heap_words.specs.Layouts.{IsPass}
use Rattle.heap_history.specs.declared.call.Ended.{Ended}
use Rattle.heap_history.specs.Histories.{pass_of}
use Rattle.heap_history.specs.Logs.{changes_of}
use Rattle.heap_history.specs.LogLaws.{length-look, length-change}
use Rattle.heap_script.specs.Tellings.{Telling}
use Rattle.barriers.specs.declared.pass.PassRecord.{PassRecord}
use Rattle.barriers.specs.Kits.{Kit, Stepping}
use Rattle.gc_cycle.specs.Worlds.{State, pass_at, changes_now, fed_at, logged, nobody}
use Rattle.gc_cycle.specs.Runs.{Moves, decides_at, looked_at, counts_after}
use Rattle.gc_cycle.proofs.script.Answering.{IsCallBy}
use Rattle.gc_cycle.proofs.script.Threads.{IsOf}
use Rattle.gc_cycle.proofs.script.Worlds.{with_told}

more_in : (log : List Ended) (made : Bool) (seen : ℕ) (call : Option Ended) → IsCallBy made seen call → length (changes_of (logged log call)) ≡ length (changes_of log) + cond made 1 0
more_in log made seen None none = subst (λ (b : Bool). length (changes_of log) ≡ length (changes_of log) + cond b 1 0) (sym none) (omega arith)
more_in log true seen (Some e) is = length-change log e is.1
more_in log false seen (Some e) is = omega (arith, length-look log e is.1)

seen_on : (made : Bool) (changes before seen : ℕ) → seen ≡ cond made (changes + 1) before → made ≡ false → seen ≡ before
seen_on true changes before seen is none = absurd cc
seen_on false changes before seen is none = is

seen_all : (made : Bool) (changes before seen : ℕ) → seen ≡ cond made (changes + 1) before → made ≡ true → seen ≡ changes + cond made 1 0
seen_all true changes before seen is change = is
seen_all false changes before seen is change = absurd cc

seen_later : (made : Bool) (changes before seen : ℕ) → seen ≡ cond made (changes + 1) before → before ≤ changes → before ≤ seen
seen_later true changes before seen is within = omega (arith, is, within)
seen_later false changes before seen is within = omega (arith, is)

module _ {R W E M : Type 0} (kit : Kit R W E M) (by : Stepping R W E M) (w : State R W E M) (party : ℕ) where
  -- the record of one pass is this, and at most one more call ended, which it has seen
  pub record IsMove (words : List ℕ) (passes : List (PassRecord R W E)) (told : Telling) (x : PassRecord R W E) (call : Option Ended) : Type 0 where
    pub there : (q : ℕ) → IsPass w.layout q → q ≢ party → get_or passes (q - 1) nobody ≡ pass_at w q
    pub here : get_or passes (party - 1) nobody ≡ x
    pub log_is : told.log ≡ logged w.told.log call
    pub own : IsOf party call
    pub call_is : IsCallBy (decides_at kit by w party) x.seen call
    pub seen_is : x.seen ≡ cond (decides_at kit by w party) (changes_now w + 1) (let p = fed_at kit by w party in p.seen)
    pub counts : told.agains ≡ counts_after kit by w party

  told_by : (made : Bool) (seen : ℕ) (call : Option Ended) → IsOf party call → IsCallBy made seen call → (e : Ended) → call ≡ Some e → (pass_of e.call ≡ party) × (e.front ≡ seen)
  told_by made seen None own is e some = absurd cc
  told_by made seen (Some d) own is e some = subst (λ (x : Ended). (pass_of x.call ≡ party) × (x.front ≡ seen)) (same_Some _ _ some) (own, is.0)

  pub moves_next : (let p = fed_at kit by w party in p.seen) ≡ looked_at kit by w party → (let p = pass_at w party in p.seen) ≤ (let p = fed_at kit by w party in p.seen) → (let p = fed_at kit by w party in p.seen) ≤ changes_now w → (words : List ℕ) (passes : List (PassRecord R W E)) (told : Telling) (x : PassRecord R W E) (call : Option Ended)
      → IsMove words passes told x call → Moves kit by w party (with_told kit w words passes told)
  moves_next looked later within words passes told x call is =
      let made = decides_at kit by w party in
      let before = (let p = fed_at kit by w party in p.seen) in
      let seen : (let p = get_or passes (party - 1) nobody in p.seen) ≡ x.seen = ap (λ (y : PassRecord R W E). y.seen) is.here in
      let more : length (changes_of told.log) ≡ changes_now w + cond made 1 0 = ap (λ (log : List Ended). length (changes_of log)) is.log_is ∙ more_in w.told.log made x.seen call is.call_is in
      record {
        others = is.there;
        call = call;
        log = is.log_is;
        changes = more;
        looked = λ none. seen ∙ seen_on made (changes_now w) before x.seen is.seen_is none ∙ looked;
        made = λ change. seen ∙ seen_all made (changes_now w) before x.seen is.seen_is change ∙ sym more;
        later = let on = seen_later made (changes_now w) before x.seen is.seen_is within in omega (arith, later, on, seen);
        told = λ e some. let t = told_by made x.seen call is.own is.call_is e some in (t.0, t.1 ∙ sym seen);
        counts = is.counts;
      }
