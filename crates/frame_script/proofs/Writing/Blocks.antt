-- What is written of a text where blocks are open.
use Rattle.std.proofs.Common.{arith, ◌≡◌, ◌≤◌, ◌+◌, ◌∙◌, ℕ, zero, suc, true, List, [], ◌∷◌, ◌++◌, refl, sym, ap, subst, length, append_assoc}
use Rattle.std.specs.List.{AllZip}
use Rattle.std.proofs.lemmas.List.{append-nil}
use Rattle.frame_ast.specs.declared.kernel.Kernel.{Kernel as CheckedKernel}
use Rattle.frame_ast.specs.declared.script.Statement.{Statement}
use Rattle.script_text.specs.declared.source.Source.{Source}
use Rattle.frame_script.specs.declared.written.OpenBlock.{OpenBlock}
use Rattle.script_text.specs.Raw.{RawItems}
use Rattle.script_text.specs.Sources.{number_at}
use Rattle.script_names.specs.Names.{Name as Known}
use Rattle.frame_script.specs.Files.{Mark, marks_of, copies_of, excess}
use Rattle.frame_script.specs.Writing.{Writing, HasMark, IsPart, IsWrittenOf, outside, in_repeat, in_when, Completes, so_far, no_room}
use Rattle.frame_script.proofs.Writing.Parts.{part_behind, zipped, when_mark}
use Rattle.frame_script.proofs.Writing.Put.{Puts, all_put, stopped}

-- more is written of what is left of the innermost block
pub written_on : {s : Source} {names : List Known} {kernels : List CheckedKernel} {whole : RawItems} {literals after : ℕ} {statements : List Statement}
    {marks : List Mark} {blocks : List OpenBlock} {rest left : RawItems} {around : List RawItems} {more : List Statement} {more_marks : List Mark} →
    IsWrittenOf s names kernels whole literals statements marks blocks (rest ∷ around) → IsPart s names kernels literals after rest more more_marks left →
    IsWrittenOf s names kernels whole after (statements ++ more) (marks ++ more_marks) blocks (left ∷ around)
written_on (outside part) next = outside (part_behind part next)
written_on {more = more} {more_marks = more_marks} (in_repeat before at n inner earlier done earlier_marks done_marks outer part start count least
    statements_are marks_are) next =
    in_repeat before at n inner earlier (done ++ more) earlier_marks (done_marks ++ more_marks) outer (part_behind part next) start count least
    (ap (λ xs. xs ++ more) statements_are ∙ append_assoc earlier done more)
    (ap (λ ms. ms ++ more_marks) marks_are ∙ append_assoc earlier_marks done_marks more_marks)
written_on {more = more} {more_marks = more_marks} (in_when before at name test value inner x earlier done earlier_marks done_marks outer part start is
    statements_are marks_are) next =
    in_when before at name test value inner x earlier (done ++ more) earlier_marks (done_marks ++ more_marks) outer (part_behind part next) start is
    (ap (λ xs. xs ++ more) statements_are ∙ append_assoc earlier (x ∷ done) more)
    (ap (λ ms. ms ++ more_marks) marks_are ∙ append_assoc earlier_marks (record { at = at; tested = true } ∷ done_marks) more_marks)

-- the statements have these marks
pub written_marks : {s : Source} {names : List Known} {kernels : List CheckedKernel} {whole : RawItems} {literals : ℕ} {statements : List Statement}
    {marks : List Mark} {blocks : List OpenBlock} {rest : List RawItems} →
    IsWrittenOf s names kernels whole literals statements marks blocks rest → AllZip (HasMark s) statements marks
written_marks (outside part) = part.have_marks
written_marks {s} {marks = marks} (in_repeat before at n inner earlier done earlier_marks done_marks outer part start count least statements_are marks_are) =
    subst (λ xs. AllZip (HasMark s) xs marks) (sym statements_are)
    (subst (λ ms. AllZip (HasMark s) (earlier ++ done) ms) (sym marks_are)
    (zipped (HasMark s) earlier done earlier_marks done_marks (written_marks outer) part.have_marks))
written_marks {s} {names} {kernels} {marks = marks} (in_when before at name test value inner x earlier done earlier_marks done_marks outer part start is
    statements_are marks_are) =
    subst (λ xs. AllZip (HasMark s) xs marks) (sym statements_are)
    (subst (λ ms. AllZip (HasMark s) (earlier ++ x ∷ done) ms) (sym marks_are)
    (zipped (HasMark s) earlier (x ∷ done) earlier_marks (record { at = at; tested = true } ∷ done_marks) (written_marks outer)
    (when_mark s names kernels before 0 at name test value x is, part.have_marks)))

-- for each open block there is something left around it
pub written_deep : {s : Source} {names : List Known} {kernels : List CheckedKernel} {whole : RawItems} {literals : ℕ} {statements : List Statement}
    {marks : List Mark} {blocks : List OpenBlock} {rest : List RawItems} →
    IsWrittenOf s names kernels whole literals statements marks blocks rest → length rest ≡ 1 + length blocks
written_deep (outside part) = refl
written_deep (in_repeat before at n inner earlier done earlier_marks done_marks outer part start count least statements_are marks_are) =
    omega (arith, written_deep outer)
written_deep (in_when before at name test value inner x earlier done earlier_marks done_marks outer part start is statements_are marks_are) =
    omega (arith, written_deep outer)

-- these marks come first of all marks of the whole
pub record ComeFirst (all first : List Mark) : Type 0 where
  pub others : List Mark
  pub all_are : all ≡ first ++ others

first_in : (n : ℕ) (marks : List Mark) → 1 ≤ n → ComeFirst (copies_of n marks) marks
first_in zero marks least = absurd (omega (arith, least))
first_in (suc n) marks least = record { others = copies_of n marks; all_are = refl }

first_of_first : (all first front back : List Mark) → ComeFirst all (first ++ front) → ComeFirst front back → ComeFirst all (first ++ back)
first_of_first all first front back outer inner = record {
  others = inner.others ++ outer.others;
  all_are = outer.all_are ∙ ap (λ ms. (first ++ ms) ++ outer.others) inner.all_are
      ∙ ap (λ ms. ms ++ outer.others) (sym (append_assoc first back inner.others)) ∙ append_assoc (first ++ back) inner.others outer.others;
}

longer : (all first front back : List Mark) → ComeFirst front back → ComeFirst all (first ++ front) → ComeFirst all (first ++ back)
longer all first front back inner outer = first_of_first all first front back outer inner

pub come_first : {s : Source} {names : List Known} {kernels : List CheckedKernel} {whole rest : RawItems} {literals : ℕ} {statements : List Statement}
    {marks : List Mark} {blocks : List OpenBlock} {around : List RawItems} →
    IsWrittenOf s names kernels whole literals statements marks blocks (rest ∷ around) → ComeFirst (marks_of s whole) (marks ++ marks_of s rest)
come_first {s} {rest = rest} {marks = marks} (outside part) = record { others = []; all_are = part.marks_are ∙ sym (append-nil (marks ++ marks_of s rest)) }
come_first {s} {whole = whole} {rest = rest} {marks = marks} (in_repeat {more =
    more} before at n inner earlier done earlier_marks done_marks outer part start count least statements_are marks_are) =
    let whole_inner : marks_of s inner ≡ done_marks ++ marks_of s rest = part.marks_are in
    let block : ComeFirst (copies_of (number_at s n) (marks_of s inner) ++ marks_of s more) (done_marks ++ marks_of s rest) =
    within_copies (subst (λ k. 1 ≤ k) count least) whole_inner in
    let outside_first = come_first outer in
    let joined : ComeFirst (marks_of s whole) (earlier_marks ++ (done_marks ++ marks_of s rest)) = longer _ earlier_marks _ _ block outside_first in
    subst (ComeFirst (marks_of s whole)) (sym (append_assoc earlier_marks done_marks (marks_of s rest))
    ∙ ap (λ ms. ms ++ marks_of s rest) (sym marks_are)) joined
  where
    within_copies : 1 ≤ number_at s n → marks_of s inner ≡ done_marks ++ marks_of s rest
        → ComeFirst (copies_of (number_at s n) (marks_of s inner) ++ marks_of s more) (done_marks ++ marks_of s rest)
    within_copies one e =
        let first = first_in (number_at s n) (marks_of s inner) one in
        record {
          others = first.others ++ marks_of s more;
          all_are = ap (λ ms. ms ++ marks_of s more) (first.all_are ∙ ap (λ ms. ms ++ first.others) e)
              ∙ append_assoc (done_marks ++ marks_of s rest) first.others (marks_of s more);
        }
come_first {s} {whole = whole} {rest = rest} {marks = marks} (in_when {more =
    more} before at name test value inner x earlier done earlier_marks done_marks outer part start is statements_are marks_are) =
    let m : Mark = record { at = at; tested = true } in
    let block : ComeFirst (m ∷ marks_of s inner ++ marks_of s more) (m ∷ done_marks ++ marks_of s rest) = record {
      others = marks_of s more;
      all_are = ap (λ ms. m ∷ ms ++ marks_of s more) part.marks_are;
    } in
    let joined : ComeFirst (marks_of s whole) (earlier_marks ++ (m ∷ done_marks ++ marks_of s rest)) = longer _ earlier_marks _ _ block (come_first outer) in
    subst (ComeFirst (marks_of s whole)) (sym (append_assoc earlier_marks (m ∷ done_marks) (marks_of s rest))
    ∙ ap (λ ms. ms ++ marks_of s rest) (sym marks_are)) joined

-- statements were put: the text is completed as what is written with all of them
pub completes_put : {s : Source} {names : List Known} {kernels : List CheckedKernel} {whole rest : RawItems} {literals : ℕ} {w : Writing} {xs : List Statement}
    {marks more : List Mark} {around : List RawItems} (v : Writing) (blocks : List OpenBlock) →
    Puts s w xs marks more v →
    IsWrittenOf s names kernels whole literals (w.statements ++ xs) (marks ++ more) blocks (rest ∷ around) →
    Completes s names kernels literals (record v { blocks = blocks }) (rest ∷ around) whole
completes_put {s} {names} {kernels} {whole} {rest} {literals} {w} {xs} {marks} {more} {around} v blocks (all_put had statements_are same) written =
    so_far (marks ++ more)
    (record {
      within = had.within;
      statements_are = had.statements_are;
      tests_are = had.tests_are;
      few_statements = had.few_statements;
      few_tests = had.few_tests;
    })
    (subst (λ ys. IsWrittenOf s names kernels whole literals ys (marks ++ more) blocks (rest ∷ around)) (sym statements_are) written)
completes_put {s} {names} {kernels} {whole} {rest} {literals} {w} {xs} {marks} {more} {around} v blocks (stopped line at over line_is first same) written =
    let all = come_first written in
    no_room line at over
    (ap (excess 65536 1024) (all.all_are ∙ append_assoc (marks ++ more) (marks_of s rest) all.others) ∙ first (marks_of s rest ++ all.others))
    line_is (written_deep written)

pub puts_blocks : {s : Source} {w : Writing} {xs : List Statement} {marks more : List Mark} {v : Writing} → Puts s w xs marks more v → v.blocks ≡ w.blocks
puts_blocks (all_put had statements_are same) = same
puts_blocks (stopped line at over line_is first same) = same

-- in the same blocks
pub completes_behind : {s : Source} {names : List Known} {kernels : List CheckedKernel} {whole rest : RawItems} {literals : ℕ} {w : Writing}
    {xs : List Statement} {marks more : List Mark} {around : List RawItems} (v : Writing) →
    Puts s w xs marks more v →
    IsWrittenOf s names kernels whole literals (w.statements ++ xs) (marks ++ more) w.blocks (rest ∷ around) →
    Completes s names kernels literals v (rest ∷ around) whole
completes_behind {s} {names} {kernels} {whole} {rest} {literals} {w} {xs} {marks} {more} {around} v p written =
    completes_put v v.blocks p (subst (λ bs. IsWrittenOf s names kernels whole literals (w.statements ++ xs) (marks ++ more) bs (rest ∷ around))
    (sym (puts_blocks p)) written)
