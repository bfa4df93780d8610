-- A session, one line more at a time.
use Rattle.std.proofs.Common.{◌≡◌, sym, ◌∙◌, ap, ℕ, ◌+◌, ◌<◌, List, [], ◌∷◌, ◌++◌, length, drop, get_or, map, Option, Some, None, arith}
use Rattle.std.specs.List.{enumerate_from}
use Rattle.std.proofs.lemmas.List.{drop_more, drop_all}
use Rattle.std.proofs.lemmas.List.FromFn.{length-enumerate_from, get_or-enumerate_from}
use Rattle.procedure.specs.Drawings.{Drawing}
use Rattle.procedure.specs.Reading.{reading, left_by}
use Rattle.law.specs.declared.call.Call.{Call}
use Rattle.script.specs.declared.line.Line.{Line}
use Rattle.script.specs.declared.wrong.Wrong.{Wrong}
use Rattle.logger.specs.Scripts.{Choice, choice_then, wrong_line, calls_of, unless_wrong, calls_in, or_later, wrong_in}
use Rattle.logger.specs.Playing.{Standing, after_line, after_lines}
use Rattle.logger.specs.Stretches.{line_of_call, opening_lines}
use Rattle.logger.proofs.Stretches.{none-wait, lines-append}

module _ (d : Drawing) where
  -- one line more waits
  pub waits : (s : Standing) (ws new : List Line) (l : Line) → new ≡ ws ++ l ∷ [] → after_lines d s new ≡ after_line d (after_lines d s ws) l
  waits s ws new l is = ap (after_lines d s) is ∙ lines-append d s ws (l ∷ [])

  module _ (opening : Option ℕ) (cs : List Call) (shut : opening ≡ None) (none : cs ≡ []) where
    -- where none waits, it stands as it does once they are made
    pub settles : (s z : Standing) → after_lines d s (opening_lines opening ++ map line_of_call cs) ≡ z → s ≡ z
    settles s z is = ap (after_lines d s) (sym (none-wait opening cs shut none)) ∙ is

    -- and a call that is made at once comes behind them
    pub at-once : (s z new : Standing) (l : Line) → after_lines d s (opening_lines opening ++ map line_of_call cs) ≡ z → new ≡ after_line d s l
        → after_lines d new (opening_lines opening ++ map line_of_call cs) ≡ after_line d z l
    at-once s z new l is made = ap (after_lines d new) (none-wait opening cs shut none) ∙ made ∙ ap (λ (x : Standing). after_line d x l) (settles s z is)

  module _ (c c' : Choice) (line : List ℕ) (rest lines : List (List ℕ)) (next : lines ≡ line ∷ rest) where
    -- the lines go on behind one that is not wrong
    pub read-on : (s s' : Standing) → wrong_line c line ≡ None → s' ≡ after_lines d s (calls_of line) → c' ≡ choice_then c (calls_of line)
        → after_lines d s' (calls_in c' rest) ≡ after_lines d s (calls_in c lines)
    read-on s s' right made knows =
        let more : List Line = calls_of line ++ calls_in (choice_then c (calls_of line)) rest in
        (λ i. after_lines d (made i) (calls_in (knows i) rest))
        ∙ sym (lines-append d s (calls_of line) (calls_in (choice_then c (calls_of line)) rest))
        ∙ ap (λ (o : Option Wrong). after_lines d s (unless_wrong o more)) (sym right)
        ∙ ap (λ (ls : List (List ℕ)). after_lines d s (calls_in c ls)) (sym next)

    pub wrong-on : (n : ℕ) → wrong_line c line ≡ None → c' ≡ choice_then c (calls_of line) → wrong_in c' (n + 1) rest ≡ wrong_in c n lines
    wrong-on n right knows =
        (λ i. wrong_in (knows i) (n + 1) rest)
        ∙ ap (λ (o : Option Wrong). or_later n o (wrong_in (choice_then c (calls_of line)) (n + 1) rest)) (sym right)
        ∙ ap (wrong_in c n) (sym next)

    -- and end at one that is wrong
    pub read-stop : (s s' : Standing) (w : Wrong) → wrong_line c line ≡ Some w → s' ≡ s → s' ≡ after_lines d s (calls_in c lines)
    read-stop s s' w wrong same =
        let more : List Line = calls_of line ++ calls_in (choice_then c (calls_of line)) rest in
        same
        ∙ ap (λ (o : Option Wrong). after_lines d s (unless_wrong o more)) (sym wrong)
        ∙ ap (λ (ls : List (List ℕ)). after_lines d s (calls_in c ls)) (sym next)

    pub wrong-stop : (n : ℕ) (w : Wrong) → wrong_line c line ≡ Some w → Some (record { number = n; wrong = w }) ≡ wrong_in c n lines
    wrong-stop n w wrong =
        ap (λ (o : Option Wrong). or_later n o (wrong_in (choice_then c (calls_of line)) (n + 1) rest)) (sym wrong) ∙ ap (wrong_in c n) (sym next)

-- the same on one file
pub on-file : (f g : List ℕ) (s z : Standing) (l : Line) → f ≡ g → s ≡ z → after_line (left_by (reading f)) s l ≡ after_line (left_by (reading g)) z l
on-file f g s z l same is = λ i. after_line (left_by (reading (same i))) (is i) l

-- the line of a turn is the next one, with its number from 0
pub turned : (lines : List (List ℕ)) (n i : ℕ) (line : List ℕ) → (n < length (enumerate_from 0 lines)) × ((i, line) ≡ get_or (enumerate_from 0 lines) n (i, line))
    → (i ≡ n) × (drop n lines ≡ line ∷ drop (n + 1) lines)
turned lines n i line t =
    let below : n < length lines = omega (arith, t.0, length-enumerate_from 0 lines) in
    let at : (i, line) ≡ (0 + n, get_or lines n line) = t.1 ∙ get_or-enumerate_from 0 lines n (i, line) below in (
      omega (arith, ap (λ (p : ℕ × List ℕ). p.0) at),
      drop_more lines n line below ∙ ap (λ (p : ℕ × List ℕ). p.1 ∷ drop (n + 1) lines) (sym at),
    )

-- at the end none is left
pub ended : (lines : List (List ℕ)) (n : ℕ) → n ≡ length (enumerate_from 0 lines) → drop n lines ≡ []
ended lines n is = drop_all n lines (omega (arith, is, length-enumerate_from 0 lines))
