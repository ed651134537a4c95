-- How far a plan has come: the regions chosen of the rows that were looked at, their jobs, and what these use.
use Rattle.std.proofs.Common.{◌≡◌, ℕ, ◌+◌, ◌*◌, ◌<◌, ◌≤◌, Bool, true, false, ◌&&◌, nat_le, if◌then◌else◌, List, ◌∷◌, ◌++◌, length, get_or, take, drop, Option, Some, None, not, ◌||◌, refl, ap, sym, subst, add-one, ◌∙◌, arith, length-append, []}
use Rattle.std.specs.List.{All}
use Rattle.std.proofs.Math.Seq.{drop-cons}
use Rattle.std.proofs.lemmas.Bool.Decides.{nat_tests}
use Rattle.object_headers.specs.Changes.{is_stopless}
use Rattle.std.proofs.lemmas.List.{append-nil, drop_all, length-take-le}
use Rattle.std.proofs.lemmas.List.Elements.{All-head, All-tail, All-take, All-weaker}
use Rattle.std.proofs.lemmas.Grind.{flat_map-append}
use Rattle.heap_words.specs.Layouts.{Sizes}
use Rattle.space_reclaim.specs.declared.plan.RegionLive.{RegionLive}
use Rattle.space_reclaim.specs.declared.plan.ObjectRow.{ObjectRow}
use Rattle.space_reclaim.specs.declared.move_job.MoveJob.{MoveJob}
use Rattle.space_reclaim.specs.declared.space.Used.{Used}
use Rattle.space_reclaim.specs.Plans.{Space, IsFound, IsLying, words_of, objects_in, objects_in_all, strip_after, jobs_after, has_room, is_chosen, regions_begun, chosen_after, plan_with, plan_of}
use Rattle.space_reclaim.proofs.plans.Rising.{pairs-head}
use Rattle.space_reclaim.proofs.plans.Strip.{words_of-append, length-le-words_of, length-jobs_after, strip_after-append, strip_after-least, jobs_after-append}
use Rattle.space_reclaim.proofs.plans.Found.{front, own_is, later_is, found_after}

-- after some rows, with these left, and with the objects left that do not lie in those
pub record IsPlannedTo (s : Space) (rows : List RegionLive) (objects : List ObjectRow) (left : List RegionLive) (rest : List ObjectRow) (chosen : List ℕ) (jobs : List MoveJob) (strip words : ℕ) : Type 0 where
  pub plan : chosen_after s objects chosen left ≡ chosen_after s objects [] rows
  pub laid : jobs ≡ jobs_after s 0 0 (objects_in_all objects chosen)
  pub used : strip ≡ strip_after 0 (objects_in_all objects chosen)
  pub taken : words ≡ words_of (objects_in_all objects chosen)
  pub less : words ≤ strip
  pub count : length jobs ≤ strip
  pub room : strip ≤ 64 * length s.pool_free
  pub found : IsFound s.layout left rest
  pub same : All (λ r. objects_in objects r.region ≡ objects_in rest r.region) left
  pub few : length chosen + length left ≤ length rows

laid_with : (s : Space) (before own : List ObjectRow) (jobs : List MoveJob) (strip words : ℕ) → jobs ≡ jobs_after s 0 0 before → strip ≡ strip_after 0 before → words ≡ words_of before → jobs ++ jobs_after s strip words own ≡ jobs_after s 0 0 (before ++ own)
laid_with s before own jobs strip words laid used taken =
    let none : words ≡ 0 + words_of before = omega (arith, taken) in
    rw (laid, used, none) (sym (jobs_after-append s 0 0 before own))

room_of : (few : Bool) (used most : ℕ) (wide : Bool) → (few && (nat_le used most && wide)) ≡ true → used ≤ most
room_of few used most wide h = grind (arith, nat_tests)

-- the next row is at the front of those left
pub planned_at : {s : Space} {rows : List RegionLive} {objects : List ObjectRow} {rest : List ObjectRow} {chosen : List ℕ} {jobs : List MoveJob} {strip words : ℕ} (i : ℕ) (d : RegionLive) → IsPlannedTo s rows objects (drop i rows) rest chosen jobs strip words → i < length rows → IsPlannedTo s rows objects (get_or rows i d ∷ drop (i + 1) rows) rest chosen jobs strip words
planned_at {s} {rows} {objects} {rest} {chosen} {jobs} {strip} {words} i d p below =
    let P : List RegionLive → Type 0 = λ left. IsPlannedTo s rows objects left rest chosen jobs strip words in
    subst P (drop-cons rows i d below ∙ ap (λ k. get_or rows i d ∷ drop k rows) (sym (add-one i))) p

-- after the last row the plan is made
pub planned_is : {s : Space} {rows : List RegionLive} {objects : List ObjectRow} {rest : List ObjectRow} {chosen : List ℕ} {jobs : List MoveJob} {strip words : ℕ} (i : ℕ) (l : Sizes) (targets : List ℕ) (wide : ℕ) → IsPlannedTo s rows objects (drop i rows) rest chosen jobs strip words → length rows ≤ i
    → l ≡ s.layout → targets ≡ take (regions_begun strip) s.pool_free → wide ≡ (if is_stopless s.kind then words else 0)
    → record { layout = l; chosen = chosen; targets = targets; jobs = jobs; wide_words = wide } ≡ plan_of s rows objects
planned_is {s} {rows} {objects} {rest} {chosen} {jobs} {strip} {words} i l targets wide p past layout into width =
    let over : drop i rows ≡ [] = drop_all i rows past in
    let all : chosen ≡ chosen_after s objects [] rows = ap (chosen_after s objects chosen) (sym over) ∙ p.plan in
    let made : record { layout = l; chosen = chosen; targets = targets; jobs = jobs; wide_words = wide } ≡ plan_with s objects chosen = rw (layout, into, width, p.laid, p.used, p.taken) refl in
    made ∙ ap (plan_with s objects) all

-- there are no more regions begun than free ones
pub begun_few : (used : ℕ) (pool : List ℕ) → used ≤ 64 * length pool → length (take (regions_begun used) pool) ≤ length pool
begun_few used pool room =
    let few : regions_begun used ≤ length pool = omega (arith, room) in
    let long : length (take (regions_begun used) pool) ≡ regions_begun used = length-take-le (regions_begun used) pool few in
    omega (arith, few, long)

passed_when : {X : Type 0} (b : Bool) (x : X) → (if b then Some x else None) ≡ None → b ≡ false
passed_when true x e = cc
passed_when false x e = refl

chosen_when : {X : Type 0} (b : Bool) (x y : X) → (if b then Some x else None) ≡ Some y → (b ≡ true) × (x ≡ y)
chosen_when true x y e = (refl, cc)
chosen_when false x y e = cc

module _ {s : Space} {rows : List RegionLive} {objects : List ObjectRow} {r : RegionLive} {left : List RegionLive} {rest : List ObjectRow} {chosen : List ℕ} {jobs : List MoveJob} {strip words : ℕ} (p : IsPlannedTo s rows objects (r ∷ left) rest chosen jobs strip words) where
  -- the objects of the next region
  pub own : objects_in objects r.region ≡ take (front r.region rest) rest
  own = All-head (λ r. objects_in objects r.region ≡ objects_in rest r.region) r left p.same ∙ sym (own_is s.layout r left rest p.found)

  pub own_lens : All (λ o. o.len ≤ 30) (take (front r.region rest) rest)
  own_lens = All-take (λ o. o.len ≤ 30) (front r.region rest) rest (All-weaker (IsLying s.layout) (λ o. o.len ≤ 30) (λ o lies. lies.len) rest p.found.lie)

  -- whose words its row says
  pub own_words : r.words ≡ words_of (take (front r.region rest) rest)
  own_words = All-head (λ r. r.words ≡ words_of (objects_in rest r.region)) r left p.found.words ∙ ap words_of (sym (own_is s.layout r left rest p.found))

  pub count_with : length (jobs ++ jobs_after s strip words (take (front r.region rest) rest)) ≡ length jobs + length (take (front r.region rest) rest)
  count_with = length-append jobs (jobs_after s strip words (take (front r.region rest) rest)) ∙ ap (λ n. length jobs + n) (length-jobs_after s strip words (take (front r.region rest) rest))

  -- with those chosen before
  all_with : objects_in_all objects (chosen ++ r.region ∷ []) ≡ objects_in_all objects chosen ++ take (front r.region rest) rest
  all_with = flat_map-append (objects_in objects) chosen (r.region ∷ []) ∙ ap (λ more. objects_in_all objects chosen ++ more) (append-nil (objects_in objects r.region) ∙ own)

  same_after : All (λ q. objects_in objects q.region ≡ objects_in (drop (front r.region rest) rest) q.region) left
  same_after = λ k d below.
      All-tail (λ r. objects_in objects r.region ≡ objects_in rest r.region) r left p.same k d below
      ∙ later_is s.layout r left rest p.found (get_or left k d).region (pairs-head (λ r s. r.region < s.region) r left p.found.regions_rise k d below)

  strip_with : strip_after 0 (objects_in_all objects (chosen ++ r.region ∷ [])) ≡ strip_after strip (take (front r.region rest) rest)
  strip_with = ap (strip_after 0) all_with ∙ (strip_after-append 0 (objects_in_all objects chosen) (take (front r.region rest) rest) ∙ ap (λ used. strip_after used (take (front r.region rest) rest)) (sym p.used))

  words_with : words_of (objects_in_all objects (chosen ++ r.region ∷ [])) ≡ words + words_of (take (front r.region rest) rest)
  words_with = ap words_of all_with ∙ (words_of-append (objects_in_all objects chosen) (take (front r.region rest) rest) ∙ ap (λ used. used + words_of (take (front r.region rest) rest)) (sym p.taken))

  -- whether it is chosen
  pub is_chosen-next : is_chosen s objects chosen r ≡ (nat_le r.words 32 && has_room s (strip_after strip (take (front r.region rest) rest)) (words + words_of (take (front r.region rest) rest)))
  is_chosen-next = rw (strip_with, words_with) refl

  -- a region that is passed over uses nothing
  pub planned_to-passed : is_chosen s objects chosen r ≡ false → IsPlannedTo s rows objects left (drop (front r.region rest) rest) chosen jobs strip words
  planned_to-passed not_chosen = record {
    plan = ap (λ b. chosen_after s objects (if b then chosen ++ r.region ∷ [] else chosen) left) (sym not_chosen) ∙ p.plan;
    laid = p.laid;
    used = p.used;
    taken = p.taken;
    less = p.less;
    count = p.count;
    room = p.room;
    found = found_after s.layout r left rest p.found;
    same = same_after;
    few = omega (arith, p.few);
  }

  -- one that is chosen
  pub planned_to-chosen : is_chosen s objects chosen r ≡ true → IsPlannedTo s rows objects left (drop (front r.region rest) rest) (chosen ++ r.region ∷ []) (jobs ++ jobs_after s strip words (take (front r.region rest) rest)) (strip_after strip (take (front r.region rest) rest)) (words + words_of (take (front r.region rest) rest))
  planned_to-chosen is = record {
    plan = ap (λ b. chosen_after s objects (if b then chosen ++ r.region ∷ [] else chosen) left) (sym is) ∙ p.plan;
    laid = laid_with s (objects_in_all objects chosen) (take (front r.region rest) rest) jobs strip words p.laid p.used p.taken ∙ ap (jobs_after s 0 0) (sym all_with);
    used = sym strip_with;
    taken = sym words_with;
    less = omega (arith, p.less, strip_after-least strip (take (front r.region rest) rest) own_lens);
    count = omega (arith, p.count, count_with, length-le-words_of (take (front r.region rest) rest), strip_after-least strip (take (front r.region rest) rest) own_lens);
    room = room_of (nat_le r.words 32) (strip_after strip (take (front r.region rest) rest)) (64 * length s.pool_free) (not (is_stopless s.kind) || nat_le (words + words_of (take (front r.region rest) rest)) s.wide_free) (sym is_chosen-next ∙ is);
    found = found_after s.layout r left rest p.found;
    same = same_after;
    few = omega (arith, p.few, length-append chosen (r.region ∷ []));
  }

  -- as the choice says
  pub planned_to-none : (choice : Option Used) → choice ≡ (if nat_le r.words 32 && has_room s (strip_after strip (take (front r.region rest) rest)) (words + words_of (take (front r.region rest) rest)) then Some (record { strip = strip_after strip (take (front r.region rest) rest); words = words + words_of (take (front r.region rest) rest) }) else None) → choice ≡ None → IsPlannedTo s rows objects left (drop (front r.region rest) rest) chosen jobs strip words
  planned_to-none choice says none = planned_to-passed (is_chosen-next ∙ passed_when (nat_le r.words 32 && has_room s (strip_after strip (take (front r.region rest) rest)) (words + words_of (take (front r.region rest) rest))) (record { strip = strip_after strip (take (front r.region rest) rest); words = words + words_of (take (front r.region rest) rest) }) (sym says ∙ none))

  pub planned_to-some : (choice : Option Used) (after : Used) → choice ≡ (if nat_le r.words 32 && has_room s (strip_after strip (take (front r.region rest) rest)) (words + words_of (take (front r.region rest) rest)) then Some (record { strip = strip_after strip (take (front r.region rest) rest); words = words + words_of (take (front r.region rest) rest) }) else None) → choice ≡ Some after → IsPlannedTo s rows objects left (drop (front r.region rest) rest) (chosen ++ r.region ∷ []) (jobs ++ jobs_after s strip words (take (front r.region rest) rest)) after.strip after.words
  planned_to-some choice after says some =
      let both = chosen_when (nat_le r.words 32 && has_room s (strip_after strip (take (front r.region rest) rest)) (words + words_of (take (front r.region rest) rest))) (record { strip = strip_after strip (take (front r.region rest) rest); words = words + words_of (take (front r.region rest) rest) }) after (sym says ∙ some) in
      let P : Used → Type 0 = λ after. IsPlannedTo s rows objects left (drop (front r.region rest) rest) (chosen ++ r.region ∷ []) (jobs ++ jobs_after s strip words (take (front r.region rest) rest)) after.strip after.words in
      subst P both.1 (planned_to-chosen (is_chosen-next ∙ both.0))
