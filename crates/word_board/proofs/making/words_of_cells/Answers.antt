use Rattle.std.proofs.Common.{rules, ◌≡◌, ℕ, ◌+◌, ◌-◌, List, [], ◌∷◌, ◌++◌, map, replicate, length, get_or, w64, ap, sym, ◌∙◌, arith}
use Rattle.std.proofs.lemmas.List.{length-map, take_all}
use Rattle.std.specs.Int.{cast_signed}
use Rattle.word_board.proofs.Laying.{with_words, cell_in, zero_past}
use Rattle.word_board.proofs.making.words_of_cells.Goals.{In_ok-resize}
use Rattle.word_board.proofs.making.words_of_cells.Goals as goal

-- how many zeros there are after the words of cells
abbrev more : In_ok-resize → ℕ
more c = c.args.count - c.add_cells.new.words.len

words_are : (c : In_ok-resize) → (bits : List ℕ) × (map (cast_signed w64) bits ≡ c.args.first.now) × (c.resize.new.self.items ≡ with_words bits (more c))
words_are c =
    let b = c.in_ok-add_cells.ensures in
    let one : c.push.new.self.items ≡ 0 ∷ [] = search rules in
    let all : c.add_cells.new.words.items ≡ 0 ∷ b.0 = b.2 ∙ ap (λ l. l ++ b.0) one in
    let size = ap (λ l. length l) all in
    let same : length b.0 ≡ length c.args.first.now = sym (length-map b.0 (cast_signed w64)) ∙ ap (λ l. length l) b.1 in
    let room = c.requires.room in (
      b.0,
      b.1,
      c.in_ok-resize.ensures.items
          ∙ ap (λ l. l ++ replicate (more c) 0) (take_all c.args.count c.add_cells.new.words.items (omega arith) ∙ all),
    )

pub returns-clause-cells : goal.returns-clause-cells
returns-clause-cells c = λ w lt. let ws = words_are c in
    ap (λ l. cast_signed w64 (get_or l (1 + w) 0)) ws.2 ∙ cell_in ws.0 c.args.first.now (more c) w ws.1 lt

pub returns-clause-others : goal.returns-clause-others
returns-clause-others c = λ i lt. let ws = words_are c in
    let size : length ws.0 ≡ length c.args.first.now = sym (length-map ws.0 (cast_signed w64)) ∙ ap (λ l. length l) ws.1 in
    ap (λ l. get_or l i 0) ws.2 ∙ zero_past ws.0 (more c) i (omega arith)
