-- Logs of calls and the room that they use, one call more at a time.
use Rattle.std.proofs.Common.{◌≡◌, refl, sym, ◌∙◌, ap, ℕ, zero, suc, ◌+◌, ◌-◌, ◌<◌, ◌≤◌, List, [], ◌∷◌, ◌++◌, length, take, drop, get_or, set, Result, arith}
use borrow.Rule.Slice.PartMut.{put_mid}
use Rattle.std.proofs.Math.Seq.{take-add}
use Rattle.std.proofs.lemmas.Bool.{le-leb, lt-leb}
use Rattle.std.proofs.lemmas.List.{append-nil, append_assoc, length-append, length-take-le, length-drop, length-set, take-append-drop, take_more, take_more_set, take-append-le, drop-append-le, take_all, drop_all, drop_more, drop-drop, drop-set-lt}
use Rattle.std.proofs.lemmas.Slice.{take-put_mid, drop-put_mid}
use Rattle.fault.specs.declared.fault.Fault.{Fault}
use Rattle.event.specs.declared.event.Event.{Event}
use Rattle.law.specs.Calls.{Outcome, call_of}
use Rattle.law.specs.declared.call.Call.{Call}
use Rattle.law.specs.declared.call.Call.TheVariants.{Offer, Menu}
use Rattle.run.specs.Replays.{places_of, calls_made, outcome_in, outcomes_in, places_after, events_after}

-- how many places some calls bring
abbrev pub places_in : List Call → ℕ
places_in [] = 0
places_in (c ∷ cs) = places_of c + places_in cs

-- the same of what calls came to
abbrev pub places_for : List Outcome → ℕ
places_for [] = 0
places_for (o ∷ os) = places_of (call_of o) + places_for os

-- one call more
pub places-more : (cs : List Call) (c : Call) → places_in (cs ++ c ∷ []) ≡ places_in cs + places_of c
places-more [] c = omega arith
places-more (b ∷ cs) c = omega (arith, places-more cs c)

-- the call that comes to what an answer tells
pub call-of : (c : Call) (r : Result ℕ Fault) (es : List Event) → call_of (outcome_in c r es) ≡ c
call-of (Offer e) r es = refl
call-of (Menu n) r es = refl

-- as many places are read as the calls bring
pub places-read : (cs : List Call) (rs : List (Result ℕ Fault)) (es : List Event) → length rs ≡ length cs → places_for (outcomes_in cs rs es) ≡ places_in cs
places-read [] rs es e = refl
places-read (c ∷ cs) [] es e = cc
places-read (c ∷ cs) (r ∷ rs) es e =
    let more = places-read cs rs (drop (places_of c) es) (omega arith) in
    let here = ap places_of (call-of c r (take (places_of c) es)) in
    omega arith

-- a log of two parts
pub outcomes-append : (cs ds : List Call) (rs ss : List (Result ℕ Fault)) (es fs : List Event)
    → length rs ≡ length cs → length es ≡ places_in cs
    → outcomes_in (cs ++ ds) (rs ++ ss) (es ++ fs) ≡ outcomes_in cs rs es ++ outcomes_in ds ss fs
outcomes-append [] ds [] ss [] fs r e = refl
outcomes-append [] ds [] ss (x ∷ es) fs r e = cc
outcomes-append [] ds (y ∷ rs) ss es fs r e = cc
outcomes-append (c ∷ cs) ds [] ss es fs r e = cc
outcomes-append (c ∷ cs) ds (y ∷ rs) ss es fs r e =
    let n = places_of c in
    let few : n ≤ length es = omega arith in
    let rest : length (drop n es) ≡ places_in cs = omega (arith, length-drop n es) in
    let read : length rs ≡ length cs = omega arith in
    rw (take-append-le n es fs few, drop-append-le n es fs few)
    (ap (λ (os : List Outcome). outcome_in c y (take n es) ∷ os) (outcomes-append cs ds rs ss (drop n es) fs read rest))

-- the room after a log of two parts
pub events-append : (os ps : List Outcome) (es fs : List Event)
    → length es ≡ places_for os → events_after (os ++ ps) (es ++ fs) ≡ events_after os es ++ events_after ps fs
events-append [] ps [] fs e = refl
events-append [] ps (x ∷ es) fs e = cc
events-append (o ∷ os) ps es fs e =
    let n = places_of (call_of o) in
    let few : n ≤ length es = omega arith in
    let rest : length (drop n es) ≡ places_for os = omega (arith, length-drop n es) in
    let here = places_after o (take n es) in
    rw (take-append-le n es fs few, drop-append-le n es fs few)
    (ap (λ (xs : List Event). here ++ xs) (events-append os ps (drop n es) fs rest) ∙ sym (append_assoc here (events_after os (drop n es)) (events_after ps fs)))

-- one call more is made, where there is room for its answer and its places
pub made-next : (c : Call) (cs : List Call) (a p : ℕ) → 0 < a → places_of c ≤ p → calls_made (c ∷ cs) a p ≡ suc (calls_made cs (a - 1) (p - places_of c))
made-next c cs zero p some fits = absurd (omega arith)
made-next c cs (suc a) p some fits =
    let e : suc a - 1 ≡ a = omega arith in
    rw (le-leb (places_of c) p fits, e) refl

-- none without room for an answer
pub none-answered : (cs : List Call) (p : ℕ) → calls_made cs 0 p ≡ 0
none-answered [] p = refl
none-answered (c ∷ cs) p = refl

-- none without room for its places
pub none-placed : (c : Call) (cs : List Call) (a p : ℕ) → p < places_of c → calls_made (c ∷ cs) a p ≡ 0
none-placed c cs zero p short = refl
none-placed c cs (suc a) p short = rw (lt-leb (places_of c) p short) refl

-- How far a replay has come: after the first i calls, of which the places end at `at`, the log tells of them what os says, and the rest is
-- as it was.
pub record Made (cs : List Call) (os : List Outcome) (rs rs' : List (Result ℕ Fault)) (es es' : List Event) (i at : ℕ) : Type 0 where
  pub within : i ≤ length cs
  pub answered : i ≤ length rs
  pub as_many : length rs' ≡ length rs
  pub fits : at ≤ length es
  pub as_wide : length es' ≡ length es
  pub used : at ≡ places_in (take i cs)
  pub goes_on : calls_made cs (length rs) (length es) ≡ i + calls_made (drop i cs) (length rs - i) (length es - at)
  pub logged : outcomes_in (take i cs) (take i rs') (take at es') ≡ os
  pub written : take at es' ≡ events_after os (take at es)
  pub later_answers : drop i rs' ≡ drop i rs
  pub later_places : drop at es' ≡ drop at es

-- none at first
pub made-none : (cs : List Call) (rs : List (Result ℕ Fault)) (es : List Event) → Made cs [] rs rs es es 0 0
made-none cs rs es = record {
  within = omega arith;
  answered = omega arith;
  as_many = refl;
  fits = omega arith;
  as_wide = refl;
  used = refl;
  goes_on =
      let a : length rs - 0 ≡ length rs = omega arith in
      let p : length es - 0 ≡ length es = omega arith in
      rw (a, p) (omega arith);
  logged = refl;
  written = refl;
  later_answers = refl;
  later_places = refl;
}

module _ (cs : List Call) (os : List Outcome) (rs rs' : List (Result ℕ Fault)) (es es' : List Event) (i at : ℕ) (m : Made cs os rs rs' es es' i at) where
  -- the places are those of the log
  for-log : length (take at es) ≡ places_for os
  for-log =
      let read : places_for (outcomes_in (take i cs) (take i rs') (take at es')) ≡ places_in (take i cs) =
      places-read (take i cs) (take i rs') (take at es') (length-take-le i rs' (omega (arith, m.answered, m.as_many)) ∙ sym (length-take-le i cs m.within)) in
      length-take-le at es m.fits ∙ m.used ∙ sym read ∙ ap places_for m.logged

  -- the whole log, when no more are made
  pub made-log : outcomes_in (take i cs) rs' es' ≡ os
  made-log =
      let read : length (take i rs') ≡ length (take i cs) = length-take-le i rs' (omega (arith, m.answered, m.as_many)) ∙ sym (length-take-le i cs m.within) in
      let used : length (take at es') ≡ places_in (take i cs) = length-take-le at es' (omega (arith, m.fits, m.as_wide)) ∙ m.used in
      let whole = outcomes-append (take i cs) [] (take i rs') (drop i rs') (take at es') (drop at es') read used in
      rw (append-nil (take i cs), take-append-drop i rs', take-append-drop at es') at whole ∙ append-nil _ ∙ m.logged

  -- and the whole room
  pub made-room : es' ≡ events_after os es
  made-room =
      let whole = events-append os [] (take at es) (drop at es) for-log in
      sym (take-append-drop at es') ∙ ap (λ (xs : List Event). xs ++ drop at es') m.written ∙ ap (λ (xs : List Event). events_after os (take at es) ++ xs) m.later_places
      ∙ sym (rw (append-nil, take-append-drop at es) at whole)

  -- no more are made without room for one answer more
  pub made-answers : length rs ≤ i → i ≡ calls_made cs (length rs) (length es)
  made-answers full =
      let e : length rs - i ≡ 0 = omega arith in
      let stop = none-answered (drop i cs) (length es - at) in
      let more = rw e at m.goes_on in
      omega (arith, more, stop)

  -- nor without room for the places of the next
  pub made-places : (d : Call) (n : ℕ) → i < length cs → n ≡ places_of (get_or cs i d) → length es' - at < n → i ≡ calls_made cs (length rs) (length es)
  made-places d n below reads short =
      let stop = none-placed (get_or cs i d) (drop (i + 1) cs) (length rs - i) (length es - at) (omega (arith, reads, short, m.as_wide)) in
      let more = rw (drop_more cs i d below) at m.goes_on in
      omega (arith, more, stop)

  -- nor past the last
  pub made-all : length cs ≤ i → i ≡ calls_made cs (length rs) (length es)
  made-all past =
      let more = rw (drop_all i cs past) at m.goes_on in
      omega (arith, more)

  module _ (c : Call) (r : Result ℕ Fault) (ps : List Event) (o : Outcome) (below : i < length cs) (free : i < length rs) (here : c ≡ get_or cs i c)
      (enough : places_of c ≤ length es - at) (all : length ps ≡ places_of c) (comes : outcome_in c r ps ≡ o) (puts : ps ≡ places_after o (take (places_of c) (drop at es'))) where
    abbrev n : ℕ
    n = places_of c

    abbrev room : List Event
    room = put_mid at n es' ps

    inside : at ≤ length es'
    inside = omega (arith, m.fits, m.as_wide)

    calls-more : take (i + 1) cs ≡ take i cs ++ c ∷ []
    calls-more = take_more cs i c below ∙ ap (λ (x : Call). take i cs ++ x ∷ []) (sym here)

    answers-more : take (i + 1) (set rs' i r) ≡ take i rs' ++ r ∷ []
    answers-more = take_more_set rs' i r (omega (arith, free, m.as_many))

    room-more : take (at + n) room ≡ take at es' ++ ps
    room-more = take-put_mid at n es' ps (at + n) (omega (arith, all)) inside

    room-later : drop (at + n) room ≡ drop (at + n) es'
    room-later = drop-put_mid at n es' ps (at + n) (omega arith) inside all

    later : drop (at + n) es' ≡ drop (at + n) es
    later = sym (drop-drop n at es') ∙ ap (λ (xs : List Event). drop n xs) m.later_places ∙ drop-drop n at es

    wide : length room ≡ length es
    wide =
        let l = length-append (take (at + n) room) (drop (at + n) room) in
        let whole : length room ≡ length (take (at + n) room) + length (drop (at + n) room) = ap length (sym (take-append-drop (at + n) room)) ∙ l in
        let front : length (take (at + n) room) ≡ at + n =
        ap length room-more ∙ length-append (take at es') ps ∙ (omega (arith, length-take-le at es' inside, all)) in
        let back : length (drop (at + n) room) ≡ length es' - (at + n) = ap length room-later ∙ length-drop (at + n) es' in
        omega (arith, whole, front, back, m.as_wide, m.fits, enough)

    the-call : call_of o ≡ c
    the-call = ap call_of (sym comes) ∙ call-of c r ps

    log-more : outcomes_in (take (i + 1) cs) (take (i + 1) (set rs' i r)) (take (at + n) room) ≡ os ++ o ∷ []
    log-more =
        let read : length (take i rs') ≡ length (take i cs) = length-take-le i rs' (omega (arith, m.answered, m.as_many)) ∙ sym (length-take-le i cs m.within) in
        let used : length (take at es') ≡ places_in (take i cs) = length-take-le at es' inside ∙ m.used in
        let all-places : take n ps ≡ ps = take_all n ps (omega (arith, all)) in
        let one : outcome_in c r (take n ps) ≡ o = ap (λ (xs : List Event). outcome_in c r xs) all-places ∙ comes in
        rw (calls-more, answers-more, room-more)
        (outcomes-append (take i cs) (c ∷ []) (take i rs') (r ∷ []) (take at es') ps read used
        ∙ ap (λ (xs : List Outcome). xs ++ outcome_in c r (take n ps) ∷ []) m.logged ∙ ap (λ (x : Outcome). os ++ x ∷ []) one)

    events-more : take (at + n) room ≡ events_after (os ++ o ∷ []) (take (at + n) es)
    events-more =
        let part : List Event = take n (drop at es) in
        let there : take n (drop at es') ≡ part = ap (λ (xs : List Event). take n xs) m.later_places in
        let size : length part ≡ n = length-take-le n (drop at es) (omega (arith, length-drop at es, enough)) in
        let first : take (places_of (call_of o)) part ≡ part = take_all (places_of (call_of o)) part (omega (arith, size, ap places_of the-call)) in
        let rest : drop (places_of (call_of o)) part ≡ [] = drop_all (places_of (call_of o)) part (omega (arith, size, ap places_of the-call)) in
        let one : events_after (o ∷ []) part ≡ places_after o part = rw (first, rest) (append-nil (places_after o part)) in
        let new : ps ≡ places_after o part = puts ∙ ap (places_after o) there in
        room-more ∙ ap (λ (xs : List Event). xs ++ ps) m.written ∙ ap (λ (xs : List Event). events_after os (take at es) ++ xs) (new ∙ sym one)
        ∙ sym (events-append os (o ∷ []) (take at es) part for-log) ∙ ap (events_after (os ++ o ∷ [])) (sym (take-add at n es))

    -- one call more, where there is room for its answer and its places
    pub made-more : Made cs (os ++ o ∷ []) rs (set rs' i r) es room (i + 1) (at + n)
    made-more = record {
      within = omega (arith, below);
      answered = omega (arith, free);
      as_many = length-set rs' i r ∙ m.as_many;
      fits = omega (arith, m.fits, enough);
      as_wide = wide;
      used = ap (λ (k : ℕ). k + n) m.used ∙ sym (places-more (take i cs) c) ∙ ap places_in (sym calls-more);
      goes_on =
          let e : drop i cs ≡ c ∷ drop (i + 1) cs = drop_more cs i c below ∙ ap (λ (x : Call). x ∷ drop (i + 1) cs) (sym here) in
          let more = rw e at m.goes_on in
          let next = made-next c (drop (i + 1) cs) (length rs - i) (length es - at) (omega (arith, free)) enough in
          let a : length rs - i - 1 ≡ length rs - (i + 1) = omega arith in
          let p : length es - at - n ≡ length es - (at + n) = omega arith in
          let then = rw (a, p) at next in
          omega (arith, more, then);
      logged = log-more;
      written = events-more;
      later_answers = drop-set-lt (i + 1) rs' i r (omega arith) ∙ sym (drop-drop 1 i rs') ∙ ap (λ (xs : List (Result ℕ Fault)). drop 1 xs) m.later_answers ∙ drop-drop 1 i rs;
      later_places = room-later ∙ later;
    }
