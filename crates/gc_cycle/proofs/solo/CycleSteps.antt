-- How many steps a collector takes at most after an announcement, where each look finds that its pass has ended.
use Rattle.std.proofs.Common.{◌≡◌, ℕ, ◌+◌, ◌-◌, ◌*◌, ◌≤◌, sym, ap, ◌∙◌, arith}
use Rattle.std.proofs.Math.Nat.{add-mul, mul-le-mul_right}
use Rattle.heap_words.specs.Layouts.{Sizes, regions_of}
use Rattle.heap_words.specs.declared.limits.TheConstants.{REGISTERS}
use Rattle.reference_fix.proofs.FixWalks as walks
use Rattle.lawful_records.specs.declared.stage.Announcement.{Announcement}
use Rattle.lawful_records.specs.declared.stage.Announcement.TheVariants.{Mark, Confirm, Search, Copy, Fix, Free}
use Rattle.lawful_records.specs.declared.stage.Stage.{Stage}
use Rattle.lawful_records.specs.declared.stage.TheConstants.{SEARCHES}
use Rattle.gc_cycle.proofs.solo.SearchEnds.{region_steps}
use Rattle.gc_cycle.proofs.solo.PlaysAlone.{most_move_steps}

-- how many announcements of a cycle come after this one, without its searches
abbrev pub after_in : Announcement → ℕ
after_in Mark = 4
after_in Confirm = 3
after_in Search = 3
after_in Copy = 2
after_in Fix = 1
after_in Free = 0

-- the steps of the work on a cycle's job before an announcement: three at its regions and its header, and those of its move
abbrev pub work_steps : ℕ
work_steps = 3 + most_move_steps

-- and of all that a cycle does: some before Copy is announced, and some before Fix is
abbrev pub job_steps : ℕ
job_steps = 2 * work_steps

-- those of them that come after this announcement
abbrev pub job_after : Announcement → ℕ
job_after Mark = job_steps
job_after Confirm = job_steps
job_after Search = work_steps
job_after Copy = work_steps
job_after Fix = 0
job_after Free = 0

-- how many searches of a cycle come after this one, which has this round
abbrev pub searches_in : Announcement → ℕ → ℕ
searches_in Mark round = SEARCHES
searches_in Confirm round = SEARCHES
searches_in Search round = SEARCHES - round
searches_in Copy round = 0
searches_in Fix round = 0
searches_in Free round = 0

-- how many fixings of root words and fields come after this one in a cycle
abbrev pub fixings_in : Announcement → ℕ
fixings_in Mark = 1
fixings_in Confirm = 1
fixings_in Search = 1
fixings_in Copy = 1
fixings_in Fix = 0
fixings_in Free = 0

-- the cycles that come after a stage's
abbrev pub cycles_after : Stage → ℕ
cycles_after s = s.cycles - s.cycle

-- an announcement and a look at each pass
abbrev pub steps_each : Stage → ℕ
steps_each s = 1 + s.layout.passes

-- the loads of a search
abbrev pub seek_steps : Sizes → ℕ
seek_steps l = region_steps * regions_of l

-- a search: a draw, an announcement with a look at each pass, and the loads
abbrev pub search_steps : Sizes → ℕ
search_steps l = 1 + (1 + l.passes) + seek_steps l

-- the fixing of a root word
abbrev pub root_steps : ℕ
root_steps = 3

-- and of those of a pass
abbrev pub roots_steps : ℕ
roots_steps = root_steps * REGISTERS

-- in the await of Fix those of the passes from this one on are fixed, where they have retired
abbrev pub roots_from : Announcement → Sizes → ℕ → ℕ
roots_from Mark l pass = 0
roots_from Confirm l pass = 0
roots_from Search l pass = 0
roots_from Copy l pass = 0
roots_from Fix l pass = roots_steps * (l.passes + 1 - pass)
roots_from Free l pass = 0

-- the walk that fixes all fields
abbrev pub walk_most : Sizes → ℕ
walk_most l = walks.region_steps * regions_of l

-- all that is fixed in a cycle
abbrev pub fix_steps : Sizes → ℕ
fix_steps l = roots_steps * l.passes + walk_most l

-- the steps of all announcements that come after this one
abbrev pub said_after : Announcement → Stage → ℕ
said_after a s = (after_in a + 5 * cycles_after s) * steps_each s

-- those of the jobs
abbrev pub jobs_after : Announcement → Stage → ℕ
jobs_after a s = job_after a + job_steps * cycles_after s

-- and those of the searches
abbrev pub searches_after : Announcement → Stage → ℕ
searches_after a s = (searches_in a s.marks.round + SEARCHES * cycles_after s) * search_steps s.layout

-- and those of the fixings
abbrev pub fixings_after : Announcement → Stage → ℕ
fixings_after a s = (fixings_in a + cycles_after s) * fix_steps s.layout

abbrev pub rest_after : Announcement → Stage → ℕ
rest_after a s = jobs_after a s + searches_after a s + fixings_after a s

abbrev pub onward_left : Announcement → Stage → ℕ
onward_left a s = said_after a s + rest_after a s

-- once all passes have answered; after a Search its loads come, and after Fix the walk
abbrev pub left_after : Announcement → Stage → ℕ
left_after Search s = seek_steps s.layout + onward_left Search s
left_after Fix s = walk_most s.layout + onward_left Fix s
left_after a s = onward_left a s

-- ---- where one more is taken

-- one more of so many steps
pub one_more : (n rest each : ℕ) → n ≡ rest + 1 → each + rest * each ≡ n * each
one_more n rest each is = rw is (omega (arith, add-mul rest 1 each))

-- where one announcement is said, and no more steps of jobs are left than before
pub says_next : (n rest each jobs fewer : ℕ) → n ≡ rest + 1 → fewer ≤ jobs → each + (rest * each + fewer) ≤ n * each + jobs
says_next n rest each jobs fewer is less = omega (arith, one_more n rest each is, less)

-- likewise with some steps before it
pub says_after : (n rest each jobs fewer extra : ℕ) → n ≡ rest + 1 → extra + fewer ≤ jobs → extra + (each + (rest * each + fewer)) ≤ n * each + jobs
says_after n rest each jobs fewer extra is less = omega (arith, one_more n rest each is, less)

-- where no more searches are left than before
pub fewer_searches : (fewer more later each : ℕ) → fewer ≤ more → (fewer + SEARCHES * later) * each ≤ (more + SEARCHES * later) * each
fewer_searches fewer more later each less = mul-le-mul_right each (omega (arith, less))

-- and where one of them is begun
pub searches_next : (n rest later each : ℕ) → n ≡ rest + 1 → each + (rest + SEARCHES * later) * each ≤ (n + SEARCHES * later) * each
searches_next n rest later each is = omega (arith, one_more (n + SEARCHES * later) (rest + SEARCHES * later) each (omega (arith, is)))

-- of the passes after one no more root words are fixed
pub roots_fewer : (a : Announcement) (l : Sizes) (pass : ℕ) → roots_from a l (pass + 1) ≤ roots_from a l pass
roots_fewer Mark l pass = omega arith
roots_fewer Confirm l pass = omega arith
roots_fewer Search l pass = omega arith
roots_fewer Copy l pass = omega arith
roots_fewer Fix l pass = omega arith
roots_fewer Free l pass = omega arith

-- where the fixing of this cycle is begun
pub fixing_next : (later each : ℕ) → (1 + later) * each ≡ each + (0 + later) * each
fixing_next later each =
    let none : 0 + later ≡ later = omega arith in
    sym (one_more (1 + later) later each (omega arith)) ∙ ap (λ n. each + n * each) (sym none)

pub at_most : (extra most rest all : ℕ) → extra ≤ most → most + rest ≤ all → extra + rest ≤ all
at_most extra most rest all few within = omega (arith, few, within)

pub none_of : (most rest all : ℕ) → most + rest ≤ all → rest ≤ all
none_of most rest all within = omega (arith, within)
