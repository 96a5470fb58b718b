-- A text is completed item by item: each step of a walk over its items, with what the code writes at it.
use Rattle.std.proofs.Common.{arith, ◌≡◌, ◌≤◌, ◌<◌, ◌+◌, ◌-◌, ◌∙◌, ℕ, zero, suc, true, false, Some, None, List, [], ◌∷◌, ◌++◌, refl, sym, ap, subst, length, append_assoc, drop}
use Rattle.std.specs.List.{AllZip}
use Rattle.std.proofs.lemmas.List.{append-nil, drop_at}
use Rattle.frame_grammar.specs.declared.symbols.Event.{Event}
use Rattle.frame_ast.specs.declared.kernel.Kernel.{Kernel as CheckedKernel}
use Rattle.frame_ast.specs.declared.script.Statement.{Statement}
use Rattle.script_text.specs.declared.raw.RawNumber.{RawNumber}
use Rattle.script_text.specs.declared.source.Source.{Source}
use Rattle.frame_script.specs.declared.written.OpenBlock.{OpenBlock}
use Rattle.frame_script.specs.declared.written.OpenBlock.TheVariants as block
use Rattle.script_text.specs.Raw.{RawItems, Nothing, Kernel, Single, Block, KernelForm, OrderForm, Repeat, When}
use Rattle.script_text.specs.Events.{closing}
use Rattle.script_text.specs.Sources.{line_at, number_at}
use Rattle.script_names.specs.Names.{Name as Known}
use Rattle.frame_script.specs.Files.{Repeated, IsStatement, StandFor, Mark, copies_of, literals_of, too_long, excess}
use Rattle.frame_script.specs.Copies.{AreCopies}
use Rattle.frame_script.specs.Writing.{Writing, nothing_written, put, put_unless, put_all, opened, with_count, count_at, ClosesIn, Closes, HasMark, HadRoom, IsPart, IsWrittenOf, outside, in_repeat, in_when, Completes, so_far, no_room}
use Rattle.frame_script.proofs.Writing.Marks.{no_excess}
use Rattle.frame_script.proofs.Writing.Put.{put_one, puts, nothing_put}
use Rattle.frame_script.proofs.Writing.Parts.{nothing_done, a_kernel, a_single, a_repeat, a_when, single_mark, when_mark, zipped}
use Rattle.frame_script.proofs.Writing.Copies.{copies_stand, repeated_stand, repeated_have_marks}
use Rattle.frame_script.proofs.Writing.Blocks.{written_on, written_deep, completes_put, completes_behind, puts_blocks}

-- before the first item
pub begins : (s : Source) (names : List Known) (kernels : List CheckedKernel) (items : RawItems)
    → Completes s names kernels 0 nothing_written (items ∷ []) items
begins s names kernels items =
    so_far [] (record { within = refl; statements_are = refl; tests_are = refl; few_statements = omega arith; few_tests = omega arith })
    (outside (nothing_done s names kernels 0 items))

-- past a kernel
pub past_kernel : {s : Source} {names : List Known} {kernels : List CheckedKernel} {literals : ℕ} {w : Writing} {events : List Event} {form : KernelForm}
    {more whole : RawItems} {around : List RawItems} →
    Completes s names kernels literals w (Kernel events form more ∷ around) whole → Completes s names kernels literals w (more ∷ around) whole
past_kernel {s} {names} {kernels} {literals} {w} {events} {form} {more} {whole} {around} (so_far marks had written) =
    so_far marks had
    (subst (λ xs. IsWrittenOf s names kernels whole literals xs marks w.blocks (more ∷ around)) (append-nil w.statements)
    (subst (λ ms. IsWrittenOf s names kernels whole literals (w.statements ++ []) ms w.blocks (more ∷ around)) (append-nil marks)
    (written_on written (a_kernel s names kernels literals events form more))))
past_kernel (no_room line at over first line_is deep) = no_room line at over first line_is deep

put_over : (w : Writing) (x : Statement) (line : ℕ) → w.over ≡ Some line → put w x ≡ w
put_over w x line over = ap (λ o. put_unless o w x) over

-- past a statement without a block, which is written
pub past_single : {s : Source} {names : List Known} {kernels : List CheckedKernel} {literals at : ℕ} {w : Writing} {form : OrderForm} {more whole : RawItems}
    {around : List RawItems} (x : Statement) →
    closing form ≡ None → IsStatement s names kernels literals 0 at form x →
    Completes s names kernels literals w (Single at form more ∷ around) whole →
    Completes s names kernels (literals + length (literals_of s form)) (put w x) (more ∷ around) whole
past_single {s} {names} {kernels} {literals} {at} {w} {form} {more} {whole} {around} x no_block is (so_far marks had written) =
    completes_behind (put w x) (put_one s w x marks (record { at = at; tested = false }) had (single_mark s names kernels literals at form x no_block is))
    (written_on written (a_single s names kernels literals at form more x no_block is))
past_single {s} {names} {kernels} {literals} {at} {w} {form} {more} {whole} {around} x no_block is (no_room line here over first line_is deep) =
    subst (λ v. Completes s names kernels (literals + length (literals_of s form)) v (more ∷ around) whole) (sym (put_over w x line over))
    (no_room line here over first line_is deep)

-- into the block of a `repeat`
pub into_repeat : {s : Source} {names : List Known} {kernels : List CheckedKernel} {literals at n : ℕ} {w : Writing} {inner more whole : RawItems}
    {around : List RawItems} →
    1 ≤ number_at s n → Completes s names kernels literals w (Block at (Repeat n) inner more ∷ around) whole →
    Completes s names kernels literals (opened (block.Repeat (length w.statements) (number_at s n)) w) (inner ∷ more ∷ around) whole
into_repeat {s} {names} {kernels} {literals} {at} {n} {w} {inner} {more} {whole} {around} least (so_far marks had written) =
    so_far marks (record {
      within = had.within;
      statements_are = had.statements_are;
      tests_are = had.tests_are;
      few_statements = had.few_statements;
      few_tests = had.few_tests;
    })
    (in_repeat literals at n inner w.statements [] marks [] written (nothing_done s names kernels literals inner) refl refl least
    (sym (append-nil w.statements)) (sym (append-nil marks)))
into_repeat least (no_room line at over first line_is deep) = no_room line at over first line_is (omega (arith, deep))

-- into the block of a `when`, which is written
pub into_when : {s : Source} {names : List Known} {kernels : List CheckedKernel} {literals at name test : ℕ} {value : RawNumber} {w : Writing}
    {inner more whole : RawItems} {around : List RawItems} (x : Statement) →
    IsStatement s names kernels literals 0 at (When name test value) x →
    Completes s names kernels literals w (Block at (When name test value) inner more ∷ around) whole →
    Completes s names kernels literals (opened (block.When (length w.statements)) (put w x)) (inner ∷ more ∷ around) whole
into_when {s} {names} {kernels} {literals} {at} {name} {test} {value} {w} {inner} {more} {whole} {around} x is (so_far marks had written) =
    let m : Mark = record { at = at; tested = true } in
    let one = put_one s w x marks m had (when_mark s names kernels literals 0 at name test value x is) in
    completes_put (put w x) (block.When (length w.statements) ∷ (put w x).blocks) one
    (subst (λ bs. IsWrittenOf s names kernels whole literals (w.statements ++ x ∷ []) (marks ++ m ∷ []) (block.When (length w.statements) ∷ bs)
    (inner ∷ more ∷ around)) (sym (puts_blocks one))
    (in_when literals at name test value inner x w.statements [] marks [] written (nothing_done s names kernels literals inner) refl is refl refl))
into_when {s} {names} {kernels} {literals} {at} {w = w} {inner} {more} {whole} {around} x is (no_room line here over first line_is deep) =
    subst (λ v. Completes s names kernels literals (opened (block.When (length w.statements)) v) (inner ∷ more ∷ around) whole) (sym (put_over w x line over))
    (no_room line here over first line_is (omega (arith, deep)))

-- a block is open where something is left around it
pub open_inside : {s : Source} {names : List Known} {kernels : List CheckedKernel} {literals : ℕ} {w : Writing} {rest next whole : RawItems}
    {around : List RawItems} →
    Completes s names kernels literals w (rest ∷ next ∷ around) whole → 0 < length w.blocks
open_inside (so_far marks had written) = omega (arith, written_deep written)
open_inside (no_room line at over first line_is deep) = omega (arith, deep)

-- THE END OF A BLOCK

count_at_seam : (front : List Statement) (x : Statement) (back : List Statement) →
    count_at (length front) (front ++ x ∷ back) ≡ front ++ record x { act = with_count (length back) x.act } ∷ back
count_at_seam [] x back = refl
count_at_seam (y ∷ front) x back = ap (λ xs. y ∷ xs) (count_at_seam front x back)

count_at_length : (at : ℕ) (xs : List Statement) → length (count_at at xs) ≡ length xs
count_at_length at [] = refl
count_at_length zero (x ∷ xs) = refl
count_at_length (suc at) (x ∷ xs) = ap (λ n. suc n) (count_at_length at xs)

counted : {s : Source} {names : List Known} {kernels : List CheckedKernel} {literals at name test : ℕ} {value : RawNumber} (x : Statement) (n : ℕ) →
    IsStatement s names kernels literals 0 at (When name test value) x →
    IsStatement s names kernels literals n at (When name test value) (record x { act = with_count n x.act })
counted x n is = record { line = is.line; says = ap (with_count n) is.says }

end_of_repeat : {s : Source} {names : List Known} {kernels : List CheckedKernel} {whole inner more : RawItems} {before literals at n start count : ℕ}
    {w v : Writing} {marks earlier_marks done_marks : List Mark} {earlier done : List Statement} {blocks : List OpenBlock} {around : List RawItems} →
    HadRoom w marks → AllZip (HasMark s) done done_marks →
    IsWrittenOf s names kernels whole before earlier earlier_marks blocks (Block at (Repeat n) inner more ∷ around) →
    IsPart s names kernels before literals inner done done_marks Nothing →
    start ≡ length earlier → count ≡ number_at s n → 1 ≤ count → w.statements ≡ earlier ++ done → marks ≡ earlier_marks ++ done_marks →
    ClosesIn (block.Repeat start count ∷ blocks) w v →
    Completes s names kernels literals v (more ∷ around) whole
end_of_repeat {s} {names} {kernels} {whole} {inner} {more} {before} {literals} {at} {n} {start} {count} {w} {v} {marks} {earlier_marks} {done_marks} {earlier}
    {done} {blocks} {around}
    had have outer part start_is count_is least statements_are marks_are (copies, repeated, v_is) =
    let again : ℕ = count - 1 in
    let more_marks : List Mark = copies_of again done_marks in
    let u : Writing = record w { blocks = blocks } in
    let times : suc again ≡ number_at s n = omega (arith, count_is, least) in
    let block_is : drop start w.statements ≡ done = ap (drop start) statements_are ∙ drop_at earlier done start (sym start_is) in
    let of_block : Repeated again (AreCopies done) copies = subst (λ xs. Repeated again (AreCopies xs) copies) block_is repeated in
    let body : StandFor s names kernels before inner done = subst (StandFor s names kernels before inner) (append-nil done) (part.stand [] refl) in
    let stand : Repeated (suc again) (StandFor s names kernels before inner) (done ++ copies) = (
      done,
      copies,
      refl,
      body,
      repeated_stand again (StandFor s names kernels before inner) done
          (copies_stand s names kernels before inner) body copies of_block,
    ) in
    let copies_have : AllZip (HasMark s) copies more_marks = repeated_have_marks again s done done_marks have copies of_block in
    let all_have : AllZip (HasMark s) (done ++ copies) (copies_of (suc again) done_marks) =
    zipped (HasMark s) done copies done_marks more_marks have copies_have in
    let block_part = a_repeat s names kernels before literals at n inner more done (done ++ copies) done_marks part
    (subst (λ k. Repeated k (StandFor s names kernels before inner) (done ++ copies)) times stand)
    (subst (λ k. AllZip (HasMark s) (done ++ copies) (copies_of k done_marks)) times all_have) in
    let written : IsWrittenOf s names kernels whole literals (earlier ++ (done ++ copies)) (earlier_marks ++ copies_of (number_at s n) done_marks) blocks
    (more ∷ around) = written_on outer block_part in
    let all_statements : earlier ++ (done ++ copies) ≡ w.statements ++ copies = sym (append_assoc earlier done copies)
    ∙ ap (λ xs. xs ++ copies) (sym statements_are) in
    let all_marks : earlier_marks ++ copies_of (number_at s n) done_marks ≡ marks ++ more_marks =
    ap (λ k. earlier_marks ++ copies_of k done_marks) (sym times) ∙ sym (append_assoc earlier_marks done_marks more_marks)
    ∙ ap (λ ms. ms ++ more_marks) (sym marks_are) in
    let had_room : HadRoom u marks = record {
      within = had.within;
      statements_are = had.statements_are;
      tests_are = had.tests_are;
      few_statements = had.few_statements;
      few_tests = had.few_tests;
    } in
    subst (λ x. Completes s names kernels literals x (more ∷ around) whole) (sym v_is)
    (completes_behind (put_all u copies) (puts s u copies marks more_marks had_room copies_have)
    (subst (λ ms. IsWrittenOf s names kernels whole literals (w.statements ++ copies) ms blocks (more ∷ around)) all_marks
    (subst (λ xs. IsWrittenOf s names kernels whole literals xs (earlier_marks ++ copies_of (number_at s n) done_marks) blocks (more ∷ around)) all_statements
    written)))

end_of_when : {s : Source} {names : List Known} {kernels : List CheckedKernel} {whole inner more : RawItems} {before literals at name test start : ℕ}
    {value : RawNumber} {w v : Writing} {marks earlier_marks done_marks : List Mark} {x : Statement} {earlier done : List Statement} {blocks : List OpenBlock}
    {around : List RawItems} →
    HadRoom w marks →
    IsWrittenOf s names kernels whole before earlier earlier_marks blocks (Block at (When name test value) inner more ∷ around) →
    IsPart s names kernels before literals inner done done_marks Nothing →
    start ≡ length earlier → IsStatement s names kernels before 0 at (When name test value) x →
    w.statements ≡ earlier ++ x ∷ done → marks ≡ earlier_marks ++ record { at = at; tested = true } ∷ done_marks →
    ClosesIn (block.When start ∷ blocks) w v →
    Completes s names kernels literals v (more ∷ around) whole
end_of_when {s} {names} {kernels} {whole} {inner} {more} {before} {literals} {at} {name} {test} {start} {value} {w} {v} {marks} {earlier_marks} {done_marks} {x}
    {earlier} {done} {blocks} {around}
    had outer part start_is is statements_are marks_are v_is =
    let n : ℕ = length done in
    let all_marks : List Mark = earlier_marks ++ record { at = at; tested = true } ∷ done_marks in
    let tested : Statement = record x { act = with_count n x.act } in
    let statements : count_at start w.statements ≡ earlier ++ tested ∷ done =
    ap (λ k. count_at k w.statements) start_is ∙ ap (count_at (length earlier)) statements_are ∙ count_at_seam earlier x done in
    let written : IsWrittenOf s names kernels whole literals (earlier ++ tested ∷ done) all_marks blocks (more ∷ around) =
    written_on outer (a_when s names kernels before literals at name test value inner more tested done done_marks part (counted x n is)) in
    subst (λ u. Completes s names kernels literals u (more ∷ around) whole) (sym v_is)
    (so_far marks (record {
      within = had.within;
      statements_are = had.statements_are ∙ sym (count_at_length start w.statements);
      tests_are = had.tests_are;
      few_statements = had.few_statements;
      few_tests = had.few_tests;
    })
    (subst (λ ms. IsWrittenOf s names kernels whole literals (count_at start w.statements) ms blocks (more ∷ around)) (sym marks_are)
    (subst (λ xs. IsWrittenOf s names kernels whole literals xs all_marks blocks (more ∷ around)) (sym statements) written)))

-- what the end of a block leaves, where there was room for all
end_in : {s : Source} {names : List Known} {kernels : List CheckedKernel} {whole next : RawItems} {literals : ℕ} {statements : List Statement}
    {marks : List Mark} {blocks : List OpenBlock} {around : List RawItems} (w v : Writing) →
    HadRoom w marks → w.statements ≡ statements →
    IsWrittenOf s names kernels whole literals statements marks blocks (Nothing ∷ next ∷ around) → ClosesIn blocks w v →
    Completes s names kernels literals v (next ∷ around) whole
end_in w v had same (in_repeat before at n inner earlier done earlier_marks done_marks outer part start_is count_is least statements_are marks_are) closes =
    end_of_repeat had part.have_marks outer part start_is count_is least (same ∙ statements_are) marks_are closes
end_in w v had same (in_when before at name test value inner x earlier done earlier_marks done_marks outer part start_is is statements_are marks_are) closes =
    end_of_when had outer part start_is is (same ∙ statements_are) marks_are closes

-- the end of a block changes nothing of the first excess
closes_over : (blocks : List OpenBlock) (w v : Writing) (line : ℕ) → w.over ≡ Some line → ClosesIn blocks w v
    → (v.over ≡ Some line) × (length blocks ≡ 1 + length v.blocks)
closes_over [] w v line over closes = absurd closes
closes_over (block.Repeat start count ∷ blocks) w v line over (copies, repeated, v_is) =
    let u : Writing = record w { blocks = blocks } in
    let same : v ≡ u = v_is ∙ nothing_put u copies line over in
    (ap (λ x. x.over) same ∙ over, omega (arith, ap (λ x. length x.blocks) same))
closes_over (block.When at ∷ blocks) w v line over v_is = (ap (λ x. x.over) v_is ∙ over, omega (arith, ap (λ x. length x.blocks) v_is))

-- out of a block
pub out_of_block : {s : Source} {names : List Known} {kernels : List CheckedKernel} {literals : ℕ} {w v : Writing} {next whole : RawItems}
    {around : List RawItems} →
    Closes w v → Completes s names kernels literals w (Nothing ∷ next ∷ around) whole → Completes s names kernels literals v (next ∷ around) whole
out_of_block {w = w} {v} closes (so_far marks had written) = end_in w v had refl written closes
out_of_block {w = w} {v} closes (no_room line at over first line_is deep) =
    let left = closes_over w.blocks w v line over closes in
    no_room line at left.0 first line_is (omega (arith, deep, left.1))

-- THE END OF THE TEXT

all_written : {s : Source} {names : List Known} {kernels : List CheckedKernel} {whole : RawItems} {literals : ℕ} {w : Writing} {statements : List Statement}
    {marks : List Mark} {blocks : List OpenBlock} →
    HadRoom w marks → IsWrittenOf s names kernels whole literals statements marks blocks (Nothing ∷ []) →
    StandFor s names kernels 0 whole statements × (too_long s whole ≡ None)
all_written {s} {names} {kernels} {whole} {statements = statements} {marks} had (outside part) = (
  subst (StandFor s names kernels 0 whole) (append-nil statements) (part.stand [] refl),
  ap (excess 65536 1024) (part.marks_are ∙ append-nil marks) ∙ no_excess 65536 1024 marks had.few_statements had.few_tests,
)

-- the whole is written, and is not too long
pub ends_within : {s : Source} {names : List Known} {kernels : List CheckedKernel} {literals : ℕ} {w : Writing} {whole : RawItems} → w.over ≡ None →
    Completes s names kernels literals w (Nothing ∷ []) whole →
    StandFor s names kernels 0 whole w.statements × (too_long s whole ≡ None)
ends_within none (so_far marks had written) = all_written had written
ends_within none (no_room line at over first line_is deep) = absurd cc

-- or this is the line of its first statement too many
pub ends_over : {s : Source} {names : List Known} {kernels : List CheckedKernel} {literals line : ℕ} {w : Writing} {whole : RawItems} {rest : List RawItems}
    → w.over ≡ Some line →
    Completes s names kernels literals w rest whole →
    (at : ℕ) × (too_long s whole ≡ Some at) × (line ≡ line_at s at)
ends_over {line = line} over (so_far marks had written) = absurd cc
ends_over {s} {line = line} over (no_room line' at over' first line_is deep) =
    (at, first, subst (λ l. l ≡ line_at s at) (same_line (sym over' ∙ over)) line_is) where
      same_line : {a b : ℕ} → Some a ≡ Some b → a ≡ b
      same_line e = cc
