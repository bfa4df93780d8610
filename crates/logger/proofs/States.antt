-- What is said of a run's held states.
use Rattle.std.proofs.Common.{◌≡◌, sym, ◌∙◌, ap, ℕ, ◌+◌, ◌<◌, List, [], ◌∷◌, ◌++◌, length, take, get_or, arith, append-nil, append_assoc}
use Rattle.std.specs.Prelude.{codes}
use Rattle.std.specs.Option.{unwrap_or}
use Rattle.std.specs.List.{flat_map}
use Rattle.std.proofs.lemmas.List.{take_more}
use Rattle.rules.specs.Cells.{Cells, width}
use Rattle.opened.specs.States.{cell_in}
use Rattle.run.specs.Runs.{tree_in, states}
use Rattle.run.specs.declared.run.Run.{Run}
use Rattle.run.proofs.Told.{as-wide, told-cell}
use Rattle.text.specs.Texts.{◌⌢◌}
use Rattle.script.specs.Texts.{row_line}

module _ (run : Run) (i : ℕ) (below : i < length (states run)) where
  abbrev state : Cells
  state = get_or (states run) i []

  -- the first cells, with one more
  pub cells-more : (k n : ℕ) → k < width (tree_in run) → n ≡ unwrap_or (cell_in (states run) i k) 0 → take k state ++ n ∷ [] ≡ take (k + 1) state
  cells-more k n inside is =
      ap (λ (x : ℕ). take k state ++ x ∷ []) (is ∙ told-cell run i below k inside) ∙ sym (take_more state k 0 (omega (arith, as-wide run i below)))

-- the line of a state, with its end
abbrev pub row : Cells → List ℕ
row cells = row_line cells ⌢ codes "\n"

rows-append : (rs : List Cells) (r : Cells) → flat_map row (rs ++ r ∷ []) ≡ flat_map row rs ++ row r
rows-append [] r = append-nil (row r)
rows-append (s ∷ rs) r = ap (λ (l : List ℕ). row s ++ l) (rows-append rs r) ∙ sym (append_assoc (row s) (flat_map row rs) (row r))

-- what is said of the first states, with one more
pub rows-more : (old a b said said' : List ℕ) (held : List Cells) (i : ℕ) (cells : Cells) → i < length held → cells ≡ get_or held i []
    → said ≡ old ++ (a ++ (b ++ flat_map row (take i held))) → said' ≡ said ++ row cells → said' ≡ old ++ (a ++ (b ++ flat_map row (take (i + 1) held)))
rows-more old a b said said' held i cells below is before says =
    let one : flat_map row (take i held) ++ row cells ≡ flat_map row (take (i + 1) held) =
    sym (rows-append (take i held) cells) ∙ ap (λ (x : Cells). flat_map row (take i held ++ x ∷ [])) is ∙ ap (flat_map row) (sym (take_more held i [] below)) in
    let f : List ℕ = flat_map row (take i held) in
    says ∙ ap (λ (l : List ℕ). l ++ row cells) before
    ∙ append_assoc old (a ++ (b ++ f)) (row cells)
    ∙ ap (λ (l : List ℕ). old ++ l) (append_assoc a (b ++ f) (row cells) ∙ ap (λ (l : List ℕ). a ++ l) (append_assoc b f (row cells) ∙ ap (λ (l : List ℕ). b ++ l) one))
