-- What a pass has acknowledged, and its mark, fit the cycle, by the announcement that it has acknowledged.
use Rattle.std.specs.Prelude.{◌&&◌, not, if◌then◌else◌}
use Rattle.std.proofs.Common.{◌≡◌, ℕ, ◌==◌, Bool, true, false, None, refl, sym, ap, ◌∙◌}
use Rattle.object_headers.specs.Changes.{is_clover}
use Rattle.handshakes.specs.declared.pass_view.PassView.{PassView}
use Rattle.barriers.specs.Stances.{mark_in}
use Rattle.barriers.specs.Cycles.{ToldFits, OwnFits, has_mark}
use Rattle.barriers.specs.Kits.{own_of}
use Rattle.mark_search.specs.Draws.{last_of}
use Rattle.lawful_records.specs.declared.stage.Announcement.{Announcement}
use Rattle.lawful_records.specs.declared.stage.Announcement.TheVariants.{Mark, Confirm, Search, Copy, Fix, Free}
use Rattle.lawful_records.specs.declared.stage.Marks.{Marks}
use Rattle.lawful_records.specs.declared.stage.Stage.{Stage}
use Rattle.lawful_records.specs.Collectors.{mark_word, mark_by, mark_at, is_refused, before_by}
use Rattle.lawful_records.specs.Cycling.{told_before, told_awaiting, clear_before, clear_awaiting}
use Rattle.lawful_records.specs.Handshakes.{IsMarked}
use Rattle.lawful_records.proofs.collecting.Stages.{stance_by, ahead}

-- ---- who has acknowledged the last Copy word

-- before the next is announced, all have acknowledged the one before it
pub told_then : (a : Announcement) (first clover refused : Bool) → ToldFits (told_before a refused) (stance_by (ahead a first clover refused))
told_then Mark first clover refused = λ told. told
told_then Confirm first clover refused = λ told. told
told_then Search true clover refused = λ told. told
told_then Search false clover refused = λ told. told
told_then Copy first true refused = λ told. told
told_then Copy first false refused = λ told. told
told_then Fix first clover true = λ told. told
told_then Fix first clover false = tt
told_then Free first clover refused = tt

-- while an announcement is awaited, a pass has acknowledged it
pub told_now : (a : Announcement) (refused : Bool) → ToldFits (told_awaiting a refused) (stance_by a)
told_now Mark refused = λ told. told
told_now Confirm refused = λ told. told
told_now Search refused = λ told. told
told_now Copy refused = tt
told_now Fix true = tt
told_now Fix false = tt
told_now Free refused = tt

-- or the one before it
pub told_late : (a : Announcement) (first clover refused : Bool) → ToldFits (told_awaiting a refused) (stance_by (ahead a first clover refused))
told_late Mark first clover refused = λ told. told
told_late Confirm first clover refused = λ told. told
told_late Search true clover refused = λ told. told
told_late Search false clover refused = λ told. told
told_late Copy first clover refused = tt
told_late Fix first clover true = tt
told_late Fix first clover false = tt
told_late Free first clover refused = tt

-- ---- the mark

pub unowned : (minds : Bool) (view : PassView) → view.mark ≡ 0 → own_of minds view ≡ None
unowned true view none = ap mark_in none
unowned false view none = refl

-- where marks are not minded none is drawn
pub undrawn_is : (minds clover : Bool) (a : Announcement) (cycle : ℕ) (m : Marks) → minds ≡ clover → IsMarked clover a cycle m → minds ≡ false → last_of m.candidates ≡ 0
undrawn_is minds true a cycle m same is none = absurd (let not_true : true ≡ false = sym same ∙ none in cc)
undrawn_is minds false a cycle m same is none = rw is.1 refl

module _ (minds : Bool) (view : PassView) (mark : ℕ) (none : minds ≡ false → mark ≡ 0) where
  owned : (m : Bool) → minds ≡ m → view.mark ≡ mark → own_of m view ≡ mark_in mark
  owned true is same = ap mark_in same
  owned false is same = sym (ap mark_in (none is))

  abbrev Owns : Announcement → Type 0
  Owns b = OwnFits (stance_by b) (own_of minds view) (mark_in mark)

  pub own_now : (b : Announcement) → view.mark ≡ mark_by b mark → Owns b
  own_now Mark is = unowned minds view is
  own_now Confirm is = unowned minds view is
  own_now Search is = tt
  own_now Copy is = owned minds refl is
  own_now Fix is = owned minds refl is
  own_now Free is = unowned minds view is

  own_search : (last : ℕ) (first : Bool) → view.mark ≡ mark_by (if first then Confirm else Search) last → Owns (if first then Confirm else Search)
  own_search last true is = unowned minds view is
  own_search last false is = tt

  own_copy : (clover : Bool) → view.mark ≡ mark_by (if clover then Search else Confirm) mark → Owns (if clover then Search else Confirm)
  own_copy true is = tt
  own_copy false is = unowned minds view is

  own_fix : (refused : Bool) → view.mark ≡ mark_by (if refused then Search else Copy) mark → Owns (if refused then Search else Copy)
  own_fix true is = tt
  own_fix false is = owned minds refl is

  -- it is the one that goes with the announcement before
  pub own_before : (a : Announcement) (s : Stage) → mark_word s ≡ mark → view.mark ≡ mark_at (before_by a s) → Owns (let b = before_by a s in b.announcement)
  own_before Mark s same is = unowned minds view is
  own_before Confirm s same is = unowned minds view is
  own_before Search s same is = own_search (mark_word (before_by Search s)) (s.marks.round == 1) is
  own_before Copy s same is = own_copy (is_clover s.kind) (is ∙ ap (mark_by (if is_clover s.kind then Search else Confirm)) same)
  own_before Fix s same is = own_fix (is_refused s) (is ∙ ap (mark_by (if is_refused s then Search else Copy)) same)
  own_before Free s same is = owned minds refl (is ∙ same)

  -- ---- after a search that ended clear

  abbrev IsCleared : Announcement → Type 0
  IsCleared b = (has_mark (stance_by b) ≡ true) × (own_of minds view ≡ mark_in mark)

  pub clear_now : (a : Announcement) (clear : Bool) → clear_awaiting a clear ≡ true → view.mark ≡ mark_by a mark → IsCleared a
  clear_now Copy clear is same = (refl, owned minds refl same)
  clear_now Fix clear is same = (refl, owned minds refl same)
  clear_now Mark clear is same = absurd (cc is)
  clear_now Confirm clear is same = absurd (cc is)
  clear_now Search clear is same = absurd (cc is)
  clear_now Free clear is same = absurd (cc is)

  clear_copy : (clover clear : Bool) → clear ≡ true → (clover ≡ false → clear ≡ false) → view.mark ≡ mark_by (if clover then Search else Confirm) mark → IsCleared (if clover then Search else Confirm)
  clear_copy true clear is never same = (refl, owned minds refl same)
  clear_copy false clear is never same = absurd (let no : true ≡ false = sym is ∙ never refl in cc)

  clear_fix : (clover clear refused : Bool) → clear ≡ true → (clover && not clear) ≡ refused → view.mark ≡ mark_by (if refused then Search else Copy) mark → IsCleared (if refused then Search else Copy)
  clear_fix clover clear false is e same = (refl, owned minds refl same)
  clear_fix true clear true is e same = absurd (let no : not true ≡ true = rw is at e in cc no)
  clear_fix false clear true is e same = absurd (cc e)

  pub clear_then : (a : Announcement) (s : Stage) → mark_word s ≡ mark → IsMarked (is_clover s.kind) a s.cycle s.marks → clear_before a s.marks.clear ≡ true → view.mark ≡ mark_at (before_by a s) → IsCleared (let b = before_by a s in b.announcement)
  clear_then Copy s word marked is same =
      clear_copy (is_clover s.kind) s.marks.clear is (unclear (is_clover s.kind) marked) (same ∙ ap (mark_by (if is_clover s.kind then Search else Confirm)) word)
    where
      unclear : (clover : Bool) → IsMarked clover Copy s.cycle s.marks → clover ≡ false → s.marks.clear ≡ false
      unclear true marked e = absurd (cc e)
      unclear false marked e = marked.2
  clear_then Fix s word marked is same = clear_fix (is_clover s.kind) s.marks.clear (is_refused s) is refl (same ∙ ap (mark_by (if is_refused s then Search else Copy)) word)
  clear_then Free s word marked is same = (refl, owned minds refl (same ∙ word))
  clear_then Mark s word marked is same = absurd (cc is)
  clear_then Confirm s word marked is same = absurd (cc is)
  clear_then Search s word marked is same = absurd (cc is)

-- what is clear while an announcement is awaited was so before it was announced
pub clear_late : (a : Announcement) (clear : Bool) → clear_awaiting a clear ≡ true → clear_before a clear ≡ true
clear_late Copy clear is = is
clear_late Fix clear is = is
clear_late Mark clear is = absurd (cc is)
clear_late Confirm clear is = absurd (cc is)
clear_late Search clear is = absurd (cc is)
clear_late Free clear is = absurd (cc is)
