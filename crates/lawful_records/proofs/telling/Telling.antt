-- What a pass has told stays, and grows by the calls that it ends.
use Rattle.std.specs.Prelude.{reverse, ◌≢◌}
use Rattle.std.proofs.Common.{◌≡◌, ℕ, ◌+◌, ◌≤◌, inl, inr, List, [], ◌∷◌, ◌++◌, length, true, false, refl, sym, ap, ◌∙◌, subst, arith}
use Rattle.std.proofs.lemmas.List.{append-nil, reverse-append, reverse-reverse, length-reverse}
use Rattle.heap_history.specs.FixedHeaps.{answer}
use Rattle.heap_history.specs.Histories.{pass_of, is_change, heap_at, made_by, Follows}
use Rattle.heap_history.specs.NewestFirst.{heap_of_history, Before}
use Rattle.heap_history.specs.NewestFirstLaws.{Before-length, heap_of_history-before, heap_of_history-is}
use Rattle.heap_history.specs.declared.call.Call.{Call}
use Rattle.heap_history.specs.declared.call.Reply.TheVariants.{NotThere}
use Rattle.heap_history.specs.declared.call.Ended.{Ended}
use Rattle.barriers.specs.Kits.{Kit}
use Rattle.lawful_records.specs.Frames.{Grows}
use Rattle.lawful_records.specs.Beginnings.{call_ended}
use Rattle.lawful_records.specs.LawfulRecords.{HasTold, last_front}
use Rattle.lawful_records.specs.Records.{number_of}
use Rattle.lawful_records.specs.declared.records.PassKnown.{PassKnown}
use Rattle.lawful_records.proofs.telling.Following.{IsLookAt, IsChangeOf, made_by-cons_other, made_by-cons_own, follows_other, follows_look, follows_change, last_front-append}

-- ---- an ended call

-- a call of a pass that was a look, and saw so much
pub record IsLook (pass : ℕ) (seen : List Call) (e : Ended) : Type 0 where
  pub own : pass_of e.call ≡ pass
  pub there : e.reply ≢ NotThere
  pub front : e.front ≡ length seen
  pub look : is_change e.reply ≡ false
  pub said : answer (heap_of_history seen) e.call ≡ e.reply

-- a call that was a change, made where this was the history
pub record IsChanged (h : List Call) (e : Ended) : Type 0 where
  pub front : e.front ≡ length h + 1
  pub change : is_change e.reply ≡ true
  pub said : answer (heap_of_history h) e.call ≡ e.reply

-- of some ended calls: none, or one of which this holds
abbrev pub AtMost : (Ended → Type 0) → List Ended → Type 0
AtMost P [] = Unit {0}
AtMost P (e ∷ []) = P e
AtMost P (e ∷ f ∷ es) = ⊥

-- ---- the same with the newest change first

reverse-cons : (c : Call) (h : List Call) → reverse (c ∷ h) ≡ reverse h ++ c ∷ []
reverse-cons c h = reverse-append (c ∷ []) h

pub told_other : (h : List Call) (call : Call) (pass : ℕ) (es : List Ended) → pass_of call ≢ pass → Follows (reverse h) pass 0 es → Follows (reverse (call ∷ h)) pass 0 es
told_other h call pass es other follows =
    subst (λ (history : List Call). Follows history pass 0 es) (sym (reverse-cons call h)) (follows_other (reverse h) call pass 0 es (omega arith) other follows)

-- the heap after what was seen is the heap at its front
heap_seen : (h seen : List Call) → Before seen h → heap_of_history seen ≡ heap_at (reverse h) (length seen)
heap_seen h seen past = heap_of_history-before seen (reverse h) (subst (Before seen) (sym (reverse-reverse h)) past)

pub told_seen : (h seen : List Call) (pass : ℕ) (es : List Ended) (e : Ended) → Before seen h → last_front 0 es ≤ length seen → IsLook pass seen e → Follows (reverse h) pass 0 es → Follows (reverse h) pass 0 (es ++ e ∷ [])
told_seen h seen pass es e past reached is follows =
    let short : length seen ≤ length h = Before-length seen h past in
    let look : IsLookAt (reverse h) pass e = record {
      own = is.own;
      there = is.there;
      look = is.look;
      within = omega (arith, is.front, short, length-reverse h);
      said = ap (λ n. answer (heap_at (reverse h) n) e.call) is.front ∙ ap (λ heap. answer heap e.call) (sym (heap_seen h seen past)) ∙ is.said;
    } in
    follows_look (reverse h) pass 0 es e look (omega (arith, reached, is.front)) follows

pub told_own : (h : List Call) (pass : ℕ) (es : List Ended) (e : Ended) → pass_of e.call ≡ pass → last_front 0 es ≤ length h → IsChanged h e → Follows (reverse h) pass 0 es → Follows (reverse (e.call ∷ h)) pass 0 (es ++ e ∷ [])
told_own h pass es e own reached is follows =
    let change : IsChangeOf (reverse h) pass e = record {
      own = own;
      change = is.change;
      front = omega (arith, is.front, length-reverse h);
      said = ap (λ heap. answer heap e.call) (sym (heap_of_history-is h)) ∙ is.said;
    } in
    subst (λ (history : List Call). Follows history pass 0 (es ++ e ∷ [])) (sym (reverse-cons e.call h))
    (follows_change (reverse h) pass 0 es e change (omega arith) (omega (arith, reached, length-reverse h)) follows)

-- ---- one pass before and after

module _ {R W E : Type 0} where
  -- the second is the first pass after a step, or something without one, that is no change: it has seen no less
  pub record StaysTold (h : List Call) (p q : PassKnown R W E) : Type 0 where
    pub number : number_of q ≡ number_of p
    pub mine : q.mine ≡ p.mine
    pub count : (let pass = q.pass in pass.seen) ≡ length q.seen
    pub later : length p.seen ≤ length q.seen
    pub past : Before q.seen h

  -- and where it is this change
  pub record ChangesTold (h : List Call) (call : Call) (p q : PassKnown R W E) : Type 0 where
    pub number : number_of q ≡ number_of p
    pub mine : q.mine ≡ call ∷ p.mine
    pub ended : q.ended ≡ p.ended
    pub count : (let pass = q.pass in pass.seen) ≡ length q.seen
    pub seen : q.seen ≡ call ∷ h
    pub own : pass_of call ≡ number_of p

module _ {R W E M : Type 0} (kit : Kit R W E M) where
  -- all that it has told
  abbrev told_by : PassKnown R W E → List Ended
  told_by p = p.ended ++ call_ended kit p

  -- others' changes
  pub told_stays : (h : List Call) (call : Call) (p : PassKnown R W E) → pass_of call ≢ number_of p → HasTold kit h p → HasTold kit (call ∷ h) p
  told_stays h call p other told = record {
    mine = told.mine ∙ sym (made_by-cons_other (number_of p) call h other);
    ended = told_other h call (number_of p) (told_by p) other told.ended;
    count = told.count;
    within = omega (arith, told.within);
    reached = told.reached;
  }

  pub told_grows : (m : ℕ) (h g : List Call) (p : PassKnown R W E) → number_of p ≢ m → Grows m h g → HasTold kit h p → HasTold kit g p
  told_grows m h g p other (inl same) told = subst (λ (x : List Call). HasTold kit x p) (sym same) told
  told_grows m h g p other (inr grown) told =
      subst (λ (x : List Call). HasTold kit x p) (sym grown.is) (told_stays h grown.call p (λ same. other (sym same ∙ grown.by)) told)

  mine_stays : (h : List Call) (p q : PassKnown R W E) → StaysTold h p q → HasTold kit h p → q.mine ≡ made_by (number_of q) h
  mine_stays h p q stays told = stays.mine ∙ told.mine ∙ ap (λ n. made_by n h) (sym stays.number)

  ended_stays : (h : List Call) (p q : PassKnown R W E) (es : List Ended) → StaysTold h p q → told_by q ≡ es → Follows (reverse h) (number_of p) 0 es → Follows (reverse h) (number_of q) 0 (told_by q)
  ended_stays h p q es stays same follows =
      subst (λ (n : ℕ). Follows (reverse h) n 0 (told_by q)) (sym stays.number) (subst (Follows (reverse h) (number_of p) 0) (sym same) follows)

  -- nothing is told, or what had ended is taken in
  pub told_quiet : (h : List Call) (p q : PassKnown R W E) → StaysTold h p q → q.ended ++ call_ended kit q ≡ p.ended ++ call_ended kit p → HasTold kit h p → HasTold kit h q
  told_quiet h p q stays same told = record {
    mine = mine_stays h p q stays told;
    ended = ended_stays h p q (told_by p) stays same told.ended;
    count = stays.count;
    within = Before-length q.seen h stays.past;
    reached = omega (arith, ap (last_front 0) same, told.reached, stays.later);
  }

  one_look : (h : List Call) (p q : PassKnown R W E) (e : Ended) → StaysTold h p q → told_by q ≡ told_by p ++ e ∷ [] → IsLook (number_of p) q.seen e → HasTold kit h p → HasTold kit h q
  one_look h p q e stays same look told = record {
    mine = mine_stays h p q stays told;
    ended = ended_stays h p q (told_by p ++ e ∷ []) stays same (told_seen h q.seen (number_of p) (told_by p) e stays.past (omega (arith, told.reached, stays.later)) look told.ended);
    count = stays.count;
    within = Before-length q.seen h stays.past;
    reached = omega (arith, ap (last_front 0) same, last_front-append 0 (told_by p) e, look.front);
  }

  -- what it had told, where its machine had not ended
  before_is : (p q : PassKnown R W E) → q.ended ≡ p.ended → call_ended kit p ≡ [] → q.ended ≡ told_by p
  before_is p q ended none = ended ∙ sym (append-nil p.ended) ∙ ap (λ es. p.ended ++ es) (sym none)

  -- a step that may have ended a look
  pub told_look : (h : List Call) (p q : PassKnown R W E) → StaysTold h p q → q.ended ≡ p.ended → call_ended kit p ≡ [] → AtMost (IsLook (number_of p) q.seen) (call_ended kit q) → HasTold kit h p → HasTold kit h q
  told_look h p q stays ended before looks told = by_ended (call_ended kit q) refl looks
    where
      by_ended : (es : List Ended) → call_ended kit q ≡ es → AtMost (IsLook (number_of p) q.seen) es → HasTold kit h q
      by_ended [] is none = told_quiet h p q stays (ap (λ es. q.ended ++ es) is ∙ append-nil q.ended ∙ before_is p q ended before) told
      by_ended (e ∷ []) is look = one_look h p q e stays (ap (λ es. q.ended ++ es) is ∙ ap (λ es. es ++ e ∷ []) (before_is p q ended before)) look told
      by_ended (e ∷ f ∷ es) is none = absurd none

  -- a step that is a change, with which its call has ended
  pub told_change : (h : List Call) (call : Call) (p q : PassKnown R W E) (e : Ended) → ChangesTold h call p q → call_ended kit p ≡ [] → call_ended kit q ≡ e ∷ [] → e.call ≡ call → IsChanged h e → HasTold kit h p → HasTold kit (call ∷ h) q
  told_change h call p q e changes before ends same is told =
      let all : told_by q ≡ told_by p ++ e ∷ [] = ap (λ es. q.ended ++ es) ends ∙ ap (λ es. es ++ e ∷ []) (before_is p q changes.ended before) in
      let reached : last_front 0 (told_by p) ≤ length h = omega (arith, told.reached, told.within) in
      let long : length q.seen ≡ length h + 1 = omega (arith, ap length changes.seen) in
      let own : pass_of e.call ≡ number_of p = ap pass_of same ∙ changes.own in
      let follows : Follows (reverse (call ∷ h)) (number_of p) 0 (told_by p ++ e ∷ []) =
      subst (λ (c : Call). Follows (reverse (c ∷ h)) (number_of p) 0 (told_by p ++ e ∷ [])) same (told_own h (number_of p) (told_by p) e own reached is told.ended) in
      record {
        mine = changes.mine ∙ ap (λ cs. call ∷ cs) told.mine ∙ sym (made_by-cons_own (number_of p) call h changes.own) ∙ ap (λ n. made_by n (call ∷ h)) (sym changes.number);
        ended = subst (λ (n : ℕ). Follows (reverse (call ∷ h)) n 0 (told_by q)) (sym changes.number) (subst (Follows (reverse (call ∷ h)) (number_of p) 0) (sym all) follows);
        count = changes.count;
        within = omega (arith, long);
        reached = omega (arith, ap (last_front 0) all, last_front-append 0 (told_by p) e, is.front, long);
      }
