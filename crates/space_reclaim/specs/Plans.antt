-- The plan of a cycle: which regions are emptied, and where the copy of each of their objects is laid.
use Rattle.std.specs.Prelude.{◌≡◌, ℕ, ◌+◌, ◌*◌, ◌/◌, ◌%◌, ◌<◌, ◌≤◌, Bool, IsTrue, ◌&&◌, ◌||◌, not, ◌==◌, nat_le, if◌then◌else◌, List, [], ◌∷◌, ◌++◌, length, take, slice_index}
use Rattle.std.specs.List.{All, AllPairs, filter, flat_map, list_any, sum_by}
use Rattle.heap_words.specs.Layouts.{Sizes, IsLayout, IsRegion, regions_of, first_word, wide_at}
use Rattle.heap_words.specs.Packing.{fits_after}
use Rattle.object_headers.specs.declared.change.Kind.{Kind}
use Rattle.object_headers.specs.Changes.{is_stopless}
use Rattle.space_reclaim.specs.declared.plan.RegionLive.{RegionLive}
use Rattle.space_reclaim.specs.declared.plan.ObjectRow.{ObjectRow}
use Rattle.space_reclaim.specs.declared.move_job.MoveJob.{MoveJob}

-- ---- what a plan is made from

-- the space for copies: the free regions of the pool, and for Stopless the free words of the wide area
pub record Space : Type 0 where
  pub layout : Sizes
  pub pool_free : List ℕ
  pub wide_free : ℕ
  pub kind : Kind

-- of these
abbrev pub space_of : Sizes → List ℕ → ℕ → Kind → Space
space_of l pool_free wide_free kind = record { layout = l; pool_free = pool_free; wide_free = wide_free; kind = kind }

-- it is the layout's, and its regions rise
pub record IsSpace (s : Space) : Type 0 where
  pub pool_rises : AllPairs (λ a b. a < b) s.pool_free
  pub in_pool : All (λ region. region < s.layout.pool) s.pool_free
  pub wide : s.wide_free ≤ s.layout.wide

-- the words that objects take: their fields and one more, in a region as in the wide area
abbrev pub words_of : List ObjectRow → ℕ
words_of objects = sum_by (λ o. o.len + 1) objects

-- the live objects of a region
abbrev pub objects_in : List ObjectRow → ℕ → List ObjectRow
objects_in objects region = filter (λ o. o.region == region) objects

-- an object lies in its region
pub record IsLying (l : Sizes) (o : ObjectRow) : Type 0 where
  pub region : IsRegion l o.region
  pub len : o.len ≤ 30
  pub begins : first_word l o.region ≤ o.at
  pub ends : o.at + o.len < first_word l o.region + 64

-- what was found live: the regions and their objects rise, each object lies in a region of the list, and each region says how many words its objects take
pub record IsFound (l : Sizes) (rows : List RegionLive) (objects : List ObjectRow) : Type 0 where
  pub regions_rise : AllPairs (λ r s. r.region < s.region) rows
  pub are_regions : All (λ r. IsRegion l r.region) rows
  pub objects_rise : AllPairs (λ o p. o.at < p.at) objects
  pub lie : All (IsLying l) objects
  pub have_rows : All (λ o. IsTrue (list_any (λ r. r.region == o.region) rows)) objects
  pub words : All (λ r. r.words ≡ words_of (objects_in objects r.region)) rows

-- ---- where copies lie

-- The free regions of the pool are one strip of words, 64 of each. After this many used words of it a copy of n fields begins at the next one, or with the next region where it does not fit the rest of this one.
abbrev pub begins_after : ℕ → ℕ → ℕ
begins_after used n = if fits_after (used % 64) n then used else 64 * (used / 64 + 1)

-- the words of the strip that are used after the copies of objects laid one after another
abbrev pub strip_after : ℕ → List ObjectRow → ℕ
strip_after used [] = used
strip_after used (o ∷ rest) = strip_after (begins_after used o.len + o.len + 1) rest

-- the address of a word of the strip
abbrev pub strip_at : Space → ℕ → ℕ
strip_at s n = first_word s.layout (slice_index s.pool_free (n / 64)) + n % 64

-- whether there is room for this many words of the strip, and for Stopless for this many words of wide objects
abbrev pub has_room : Space → ℕ → ℕ → Bool
has_room s used words = nat_le used (64 * length s.pool_free) && (not (is_stopless s.kind) || nat_le words s.wide_free)

-- whether the copies of objects fit the strip, and for Stopless their wide objects the wide area
abbrev pub fits : Space → List ObjectRow → Bool
fits s objects = has_room s (strip_after 0 objects) (words_of objects)

-- ---- the plan

-- the live objects of regions, one region after another
abbrev pub objects_in_all : List ObjectRow → List ℕ → List ObjectRow
objects_in_all objects regions = flat_map (objects_in objects) regions

-- whether a region is chosen, where these were chosen before it: it has at most 32 live words, and its objects fit with all of theirs
abbrev pub is_chosen : Space → List ObjectRow → List ℕ → RegionLive → Bool
is_chosen s objects before r = nat_le r.words 32 && fits s (objects_in_all objects (before ++ r.region ∷ []))

-- the regions chosen, of which some were chosen before these rows
abbrev pub chosen_after : Space → List ObjectRow → List ℕ → List RegionLive → List ℕ
chosen_after s objects before [] = before
chosen_after s objects before (r ∷ rest) =
    chosen_after s objects (if is_chosen s objects before r then before ++ r.region ∷ [] else before) rest

-- the job of an object, after the used words of the strip and of the wide area
abbrev pub job_after : Space → ℕ → ℕ → ObjectRow → MoveJob
job_after s used wide o = record {
  birth = o.birth;
  from = o.at;
  to = strip_at s (begins_after used o.len);
  wide = (if is_stopless s.kind then wide_at s.layout + wide else 0);
  len = o.len;
  header = o.header;
}

-- the jobs of objects one after another
abbrev pub jobs_after : Space → ℕ → ℕ → List ObjectRow → List MoveJob
jobs_after s used wide [] = []
jobs_after s used wide (o ∷ rest) =
    job_after s used wide o ∷ jobs_after s (begins_after used o.len + o.len + 1) (wide + o.len + 1) rest

-- what holds of the layout and of the reserved rooms of every plan: a region each, the pool's regions, and a job for each
-- word of the pool
pub record IsRoomy (l : Sizes) (chosen_room target_room job_room : ℕ) : Type 0 where
  pub layout : IsLayout l
  pub chosen : regions_of l ≤ chosen_room
  pub targets : l.pool ≤ target_room
  pub jobs : 64 * l.pool ≤ job_room

-- how many regions this many used words of the strip are, the last one begun
abbrev pub regions_begun : ℕ → ℕ
regions_begun used = (used + 63) / 64

-- the free regions to which objects are copied: the first ones of the strip
abbrev pub targets_of : Space → List ObjectRow → List ℕ
targets_of s objects = take (regions_begun (strip_after 0 objects)) s.pool_free

-- how many words of the wide area objects take
abbrev pub wide_words_of : Space → List ObjectRow → ℕ
wide_words_of s objects = if is_stopless s.kind then words_of objects else 0

-- what a plan says, and the layout that it has room for
pub record Planned : Type 0 where
  pub layout : Sizes
  pub chosen : List ℕ
  pub targets : List ℕ
  pub jobs : List MoveJob
  pub wide_words : ℕ

-- before any
abbrev pub nothing_planned : Sizes → Planned
nothing_planned l = record { layout = l; chosen = []; targets = []; jobs = []; wide_words = 0 }

-- the chosen regions, the regions to which their objects are copied, a job for each of these, and the words of the wide
-- area that they take
abbrev pub plan_with : Space → List ObjectRow → List ℕ → Planned
plan_with s objects chosen = let moved = objects_in_all objects chosen in record {
  layout = s.layout;
  chosen = chosen;
  targets = targets_of s moved;
  jobs = jobs_after s 0 0 moved;
  wide_words = wide_words_of s moved;
}

-- the plan for what was found
abbrev pub plan_of : Space → List RegionLive → List ObjectRow → Planned
plan_of s rows objects = plan_with s objects (chosen_after s objects [] rows)

-- the regions without live words
abbrev pub empty_regions : List RegionLive → List ℕ
empty_regions [] = []
empty_regions (r ∷ rest) = if r.words == 0 then r.region ∷ empty_regions rest else empty_regions rest

-- the plan of a cycle that copies nothing: it empties these regions
abbrev pub plan_without_copies : Sizes → List RegionLive → Planned
plan_without_copies l rows = record (nothing_planned l) { chosen = empty_regions rows }
