-- What is sealed, as the world and as its records have it.
use Rattle.std.specs.Prelude.{◌&&◌, nat_lt, if◌then◌else◌}
use Rattle.std.specs.List.{All, sum_by, find}
use Rattle.std.specs.Option.{ForSome, option_map}
use Rattle.std.proofs.Common.{◌≡◌, ℕ, ◌+◌, ◌-◌, ◌≤◌, List, [], ◌∷◌, ◌++◌, length, map, Bool, true, false, Option, Some, None, refl, sym, ap, ◌∙◌, subst, arith}
use Rattle.std.proofs.lemmas.List.{append-nil, length-drop}
use Rattle.std.proofs.lemmas.List.Elements.{All-nil, All-cons, All-head, All-tail, All-weaker, All-push}
use Rattle.std.proofs.lemmas.List.Sums.{sum_by-cons}
use Rattle.heap_history.specs.declared.call.Call.{Call}
use Rattle.space_reclaim.specs.declared.move_job.MoveJob.{MoveJob}
use Rattle.barriers.specs.declared.pass.PassRecord.{PassRecord}
use Rattle.barriers.specs.Kits.{Kit}
use Rattle.barriers.specs.Knowns.{sealed_or}
use Rattle.barriers.specs.Knowns as knowns
use Rattle.barriers.specs.declared.front.Front.{Front}
use Rattle.barriers.specs.declared.front.Front.TheVariants.{Stays, Now, SealedOrNow}
use Rattle.lawful_records.specs.LawfulRecords.{is_collector}
use Rattle.lawful_records.specs.Turns.{with_change, seal_in, sealed_of, sealed_as}
use Rattle.lawful_records.specs.declared.records.Sealed.{Sealed}
use Rattle.lawful_records.specs.declared.records.Party.{Party}
use Rattle.lawful_records.specs.declared.records.Party.TheVariants as party
use Rattle.gc_cycle.specs.declared.job_log.SealedAt.{SealedAt}
use Rattle.gc_cycle.specs.Lawful.{history_in, seen_of, known_in, collector_in, records_in, seals_in}
use Rattle.gc_cycle.specs.Worlds.{State, or_else, seal_of, seen_with, has_word_at}
use Rattle.gc_cycle.proofs.records.Shares.{seen_whole, seen_stays}
use Rattle.gc_cycle.specs.JobLogs.{sealed_after}

-- a past of so many changes has so many
pub seen_count : (h : List Call) (n : ℕ) → n ≤ length h → length (seen_of h n) ≡ n
seen_count h n within = let left = length-drop (length h - n) h in omega (arith, within, left)

-- what is sealed was so after changes that there are
abbrev pub AreFew : List SealedAt → ℕ → Type 0
AreFew sealed changes = All (λ s. s.changes ≤ changes) sealed

few_head : (s : SealedAt) (more : List SealedAt) (n : ℕ) → AreFew (s ∷ more) n → s.changes ≤ n
few_head s more n few = All-head (λ (x : SealedAt). x.changes ≤ n) s more few

few_tail : (s : SealedAt) (more : List SealedAt) (n : ℕ) → AreFew (s ∷ more) n → AreFew more n
few_tail s more n few = All-tail (λ (x : SealedAt). x.changes ≤ n) s more few

abbrev row : List Call → SealedAt → Sealed
row h s = record { at = s.at; len = s.len; changes = seen_of h s.changes }

-- ---- the seal at an address

count_by : (test : Bool) (s : SealedAt) (h : List Call) (found : Option SealedAt) (seal : Option (List Call)) → s.changes ≤ length h → option_map (λ (x : SealedAt). x.changes) found ≡ option_map (λ (past : List Call). length past) seal
    → option_map (λ (x : SealedAt). x.changes) (if test then Some s else found) ≡ option_map (λ (past : List Call). length past) (if test then Some (seen_of h s.changes) else seal)
count_by true s h found seal within rest = ap Some (sym (seen_count h s.changes within))
count_by false s h found seal within rest = rest

-- the count that the world finds is that of the history that the records find
pub seal_count : (s : List SealedAt) (h : List Call) (at : ℕ) → AreFew s (length h) → seal_of s at ≡ option_map (λ (past : List Call). length past) (seal_in (seals_in s h) at)
seal_count [] h at few = refl
seal_count (s ∷ more) h at few =
    count_by (has_word_at at s) s h (find (has_word_at at) more) (seal_in (seals_in more h) at) (few_head s more (length h) few) (seal_count more h at (few_tail s more (length h) few))

-- one that has the changes of its count is such a past
abbrev pub IsCounted : List Call → Option (List Call) → Type 0
IsCounted h seal = ForSome seal (λ past. seen_of h (length past) ≡ past)

counted_by : (test : Bool) (h : List Call) (n : ℕ) (seal : Option (List Call)) → n ≤ length h → IsCounted h seal → IsCounted h (if test then Some (seen_of h n) else seal)
counted_by true h n seal within rest = λ past is.
    let same : seen_of h n ≡ past = cc in
    subst (λ (x : List Call). seen_of h (length x) ≡ x) same (ap (seen_of h) (seen_count h n within))
counted_by false h n seal within rest = rest

pub seal_counted : (s : List SealedAt) (h : List Call) (at : ℕ) → AreFew s (length h) → IsCounted h (seal_in (seals_in s h) at)
seal_counted [] h at few = λ past is. absurd cc
seal_counted (s ∷ more) h at few = counted_by (has_word_at at s) h s.changes (seal_in (seals_in more h) at) (few_head s more (length h) few) (seal_counted more h at (few_tail s more (length h) few))

-- how many changes a look with this front has seen
at_seal : (seal : Option (List Call)) (h : List Call) (changes : ℕ) → changes ≡ length h → or_else (option_map (λ (past : List Call). length past) seal) changes ≡ length (sealed_or seal h)
at_seal None h changes all = all
at_seal (Some past) h changes all = refl

-- where it had seen so many, and there are so many, by this seal
pub looks_count : (front : Front) (seal : Option (List Call)) (h seen : List Call) (count changes : ℕ) → changes ≡ length h → count ≡ length seen
    → seen_with front (option_map (λ (past : List Call). length past) seal) changes count ≡ length (knowns.front front seal h seen)
looks_count Stays seal h seen count changes all is = is
looks_count Now seal h seen count changes all is = all
looks_count SealedOrNow seal h seen count changes all is = at_seal seal h changes all

-- ---- a history that grows

pub seals_stay : (s : List SealedAt) (change : Option Call) (h : List Call) → AreFew s (length h) → seals_in s (with_change change h) ≡ seals_in s h
seals_stay [] change h few = refl
seals_stay (s ∷ more) change h few =
    ap (λ (past : List Call). record { at = s.at; len = s.len; changes = past } ∷ seals_in more (with_change change h)) (seen_stays change h s.changes (few_head s more (length h) few))
    ∙ ap (λ (rows : List Sealed). row h s ∷ rows) (seals_stay more change h (few_tail s more (length h) few))

pub few_later : (s : List SealedAt) (n m : ℕ) → n ≤ m → AreFew s n → AreFew s m
few_later s n m more few = All-weaker (λ (x : SealedAt). x.changes ≤ n) (λ (x : SealedAt). x.changes ≤ m) (λ x small. omega (arith, small, more)) s few

-- ---- a step of the collector

seals_more : (s : List SealedAt) (one : SealedAt) (h : List Call) → seals_in (s ++ one ∷ []) h ≡ seals_in s h ++ row h one ∷ []
seals_more [] one h = refl
seals_more (s ∷ more) one h = ap (λ (rows : List Sealed). row h s ∷ rows) (seals_more more one h)

pub seals_after : (s : List SealedAt) (job : Option MoveJob) (h : List Call) (n : ℕ) → n ≡ length h → seals_in s h ++ sealed_as job h ≡ seals_in (sealed_after job n s) h
seals_after s None h n all = append-nil (seals_in s h)
seals_after s (Some job) h n all =
    ap (λ (past : List Call). seals_in s h ++ record { at = job.from; len = job.len; changes = past } ∷ []) (sym (ap (seen_of h) all ∙ seen_whole h))
    ∙ sym (seals_more s (record { at = job.from; len = job.len; changes = n }) h)

pub few_after : (s : List SealedAt) (job : Option MoveJob) (n : ℕ) → AreFew s n → AreFew (sealed_after job n s) n
few_after s None n few = few
few_after s (Some job) n few = All-push (λ (x : SealedAt). x.changes ≤ n) s (record { at = job.from; len = job.len; changes = n }) few (omega arith)

pub length-seals : (s : List SealedAt) (h : List Call) → length (seals_in s h) ≡ length s
length-seals [] h = refl
length-seals (s ∷ more) h = omega (arith, length-seals more h)

-- ---- the records of all

-- the collector, and it alone, knows this to be sealed
abbrev pub Knows : {R W E M : Type 0} → List Sealed → Party R W E M → Type 0
Knows sealed (party.Pass p) = Unit {0}
Knows sealed (party.Collector q) = q.sealed ≡ sealed

module _ {R W E M : Type 0} (kit : Kit R W E M) (sealed : List Sealed) where
  none_sealed : (rs : List (Party R W E M)) → sum_by (is_collector kit) rs ≡ 0 → sealed_of rs ≡ []
  none_sealed [] none = refl
  none_sealed (party.Pass p ∷ rs) none = none_sealed rs (omega (arith, none, sum_by-cons (is_collector kit) (party.Pass p) rs))
  none_sealed (party.Collector q ∷ rs) none = absurd (omega (arith, none, sum_by-cons (is_collector kit) (party.Collector q) rs))

  -- so it is what is sealed
  pub sealed_is : (rs : List (Party R W E M)) → sum_by (is_collector kit) rs ≡ 1 → All (Knows sealed) rs → sealed_of rs ≡ sealed
  sealed_is [] one each = absurd (omega (arith, one))
  sealed_is (party.Pass p ∷ rs) one each = sealed_is rs (omega (arith, one, sum_by-cons (is_collector kit) (party.Pass p) rs)) (All-tail (Knows sealed) (party.Pass p) rs each)
  sealed_is (party.Collector q ∷ rs) one each =
      let none = none_sealed rs (omega (arith, one, sum_by-cons (is_collector kit) (party.Collector q) rs)) in
      ap (λ more. q.sealed ++ more) none ∙ append-nil q.sealed ∙ All-head (Knows sealed) (party.Collector q) rs each

module _ {R W E M : Type 0} (w : State R W E M) where
  all_know : (passes : List (PassRecord R W E)) → All (Knows (seals_in w.sealed (history_in w))) (map (λ p. party.Pass (known_in w p)) passes ++ party.Collector (collector_in w) ∷ [])
  all_know [] = let K : Party R W E M → Type 0 = Knows (seals_in w.sealed (history_in w)) in All-cons K (party.Collector (collector_in w)) [] refl (All-nil K)
  all_know (p ∷ passes) = let K : Party R W E M → Type 0 = Knows (seals_in w.sealed (history_in w)) in
      All-cons K (party.Pass (known_in w p)) (map (λ p. party.Pass (known_in w p)) passes ++ party.Collector (collector_in w) ∷ []) tt (all_know passes)

  -- the records of a world know what it has sealed
  pub records_know : All (Knows (seals_in w.sealed (history_in w))) (records_in w)
  records_know = all_know w.passes
