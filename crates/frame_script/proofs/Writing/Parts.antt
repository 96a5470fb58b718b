-- What is written of items, one item after another.
use Rattle.std.proofs.Common.{arith, ◌≡◌, ◌+◌, ◌∙◌, ℕ, true, false, None, List, [], ◌∷◌, ◌++◌, refl, sym, ap, subst, length, length-append, append_assoc}
use Rattle.std.specs.List.{AllZip}
use Rattle.std.proofs.lemmas.List.{append-nil}
use Rattle.frame_grammar.specs.declared.symbols.Event.{Event}
use Rattle.frame_ast.specs.declared.kernel.Kernel.{Kernel as CheckedKernel}
use Rattle.frame_ast.specs.declared.script.Order.{Order}
use Rattle.frame_ast.specs.declared.script.Statement.{Statement}
use Rattle.script_text.specs.declared.raw.RawNumber.{RawNumber}
use Rattle.script_text.specs.declared.source.Source.{Source}
use Rattle.script_text.specs.Raw.{RawItems, Nothing, Kernel, Single, Block, KernelForm, OrderForm, NewArray, NewColumn, NewList, NewReference, NewMap, NewStream, Slice, View, Copy, Set, Add, Put, Remove, Clear, SetCapacity, Schedule, Combine, Complete, Dispose, DisposeAuto, Print, Flush, Frame, Repeat, When}
use Rattle.script_text.specs.Events.{closing}
use Rattle.script_text.specs.Sources.{number_at}
use Rattle.script_names.specs.Names.{Name as Known}
use Rattle.script_checks.specs.Spelling.{Says}
use Rattle.frame_script.specs.Files.{Repeated, IsStatement, StandFor, Mark, marks_of, copies_of, literals_in, literals_of}
use Rattle.frame_ast.specs.Accepted.{is_when}
use Rattle.frame_script.specs.Writing.{HasMark, IsPart}

-- MARKS

-- a statement without a block is no `when`, a `when` is one

no_test : (s : Source) (names : List Known) (kernels : List CheckedKernel) (literals : ℕ) (form : OrderForm) (o : Order) → closing form ≡ None →
    Says s names kernels literals 0 form o → is_when o ≡ false
no_test s names kernels literals (NewArray name len life values) o no_block says = ap is_when says
no_test s names kernels literals (NewColumn name column life) o no_block says = ap is_when says.2
no_test s names kernels literals (NewList name cap life) o no_block says = ap is_when says
no_test s names kernels literals (NewReference name life value) o no_block says = ap is_when says
no_test s names kernels literals (NewMap name cap life) o no_block says = ap is_when says
no_test s names kernels literals (NewStream name indexes room life) o no_block says = ap is_when says
no_test s names kernels literals (Slice name of start len) o no_block says = ap is_when says
no_test s names kernels literals (View name of) o no_block says = ap is_when says
no_test s names kernels literals (Copy name of) o no_block says = ap is_when says
no_test s names kernels literals (Set name at value) o no_block says = ap is_when says
no_test s names kernels literals (Add name one two) o no_block says = ap is_when says
no_test s names kernels literals (Put name key value) o no_block says = ap is_when says
no_test s names kernels literals (Remove name at) o no_block says = ap is_when says
no_test s names kernels literals (Clear name) o no_block says = ap is_when says
no_test s names kernels literals (SetCapacity name cap) o no_block says = ap is_when says
no_test s names kernels literals (Schedule auto handle kernel args cut waive after) o no_block says = ap is_when says.2
no_test s names kernels literals (Combine name of) o no_block says = ap is_when says.2
no_test s names kernels literals (Complete true name) o no_block says = ap is_when says
no_test s names kernels literals (Complete false name) o no_block says = ap is_when says
no_test s names kernels literals (Dispose name after handle) o no_block says = ap is_when says.2
no_test s names kernels literals (DisposeAuto name handle) o no_block says = ap is_when says
no_test s names kernels literals (Print name) o no_block says = ap is_when says
no_test s names kernels literals Flush o no_block says = ap is_when says
no_test s names kernels literals Frame o no_block says = ap is_when says
no_test s names kernels literals (Repeat n) o no_block says = absurd says
no_test s names kernels literals (When name test value) o no_block says = absurd cc

pub single_mark : (s : Source) (names : List Known) (kernels : List CheckedKernel) (literals at : ℕ) (form : OrderForm) (x : Statement) → closing form ≡ None →
    IsStatement s names kernels literals 0 at form x → HasMark s x (record { at = at; tested = false })
single_mark s names kernels literals at form x no_block is = (is.line, no_test s names kernels literals form x.act no_block is.says)

pub when_mark : (s : Source) (names : List Known) (kernels : List CheckedKernel) (literals count at name test : ℕ) (value : RawNumber) (x : Statement) →
    IsStatement s names kernels literals count at (When name test value) x → HasMark s x (record { at = at; tested = true })
when_mark s names kernels literals count at name test value x is = (is.line, ap is_when is.says)

pub zipped : {A B : Type 0} (R : A → B → Type 0) (xs xs' : List A) (ys ys' : List B) → AllZip R xs ys → AllZip R xs' ys' → AllZip R (xs ++ xs') (ys ++ ys')
zipped R [] xs' [] ys' h h' = h'
zipped R [] xs' (y ∷ ys) ys' h h' = absurd h
zipped R (x ∷ xs) xs' [] ys' h h' = absurd h
zipped R (x ∷ xs) xs' (y ∷ ys) ys' h h' = (h.0, zipped R xs xs' ys ys' h.1 h')

-- PARTS

pub nothing_done : (s : Source) (names : List Known) (kernels : List CheckedKernel) (literals : ℕ) (items : RawItems)
    → IsPart s names kernels literals literals items [] [] items
nothing_done s names kernels literals items = record {
  literals_are = refl;
  marks_are = refl;
  have_marks = tt;
  stand = λ behind h. h;
}

pub part_behind : {s : Source} {names : List Known} {kernels : List CheckedKernel} {before between behind : ℕ} {whole rest left : RawItems}
    {done more : List Statement} {marks more_marks : List Mark} →
    IsPart s names kernels before between whole done marks rest → IsPart s names kernels between behind rest more more_marks left →
    IsPart s names kernels before behind whole (done ++ more) (marks ++ more_marks) left
part_behind {s} {names} {kernels} {before} {between} {behind} {whole} {rest} {left} {done} {more} {marks} {more_marks} one two = record {
  literals_are = one.literals_are ∙ two.literals_are;
  marks_are = one.marks_are ∙ ap (λ ms. marks ++ ms) two.marks_are ∙ sym (append_assoc marks more_marks (marks_of s left));
  have_marks = zipped (HasMark s) done more marks more_marks one.have_marks two.have_marks;
  stand = λ t h. subst (StandFor s names kernels before whole) (sym (append_assoc done more t)) (one.stand (more ++ t) (two.stand t h));
}

pub a_kernel : (s : Source) (names : List Known) (kernels : List CheckedKernel) (literals : ℕ) (events : List Event) (form : KernelForm) (more : RawItems) →
    IsPart s names kernels literals literals (Kernel events form more) [] [] more
a_kernel s names kernels literals events form more = record {
  literals_are = refl;
  marks_are = refl;
  have_marks = tt;
  stand = λ behind h. h;
}

-- literals behind others
counted : {A : Type 0} (n : ℕ) (xs ys : List A) → n + length (xs ++ ys) ≡ (n + length xs) + length ys
counted n xs ys = omega (arith, length-append xs ys)

pub a_single : (s : Source) (names : List Known) (kernels : List CheckedKernel) (literals at : ℕ) (form : OrderForm) (more : RawItems) (x : Statement)
    → closing form ≡ None →
    IsStatement s names kernels literals 0 at form x →
    IsPart s names kernels literals (literals + length (literals_of s form)) (Single at form more) (x ∷ []) (record { at = at; tested = false } ∷ []) more
a_single s names kernels literals at form more x no_block is = record {
  literals_are = counted literals (literals_of s form) (literals_in s more);
  marks_are = refl;
  have_marks = (single_mark s names kernels literals at form x no_block is, tt);
  stand = λ behind h. (x, behind, refl, is, h);
}

-- a block of which nothing is left
pub a_repeat : (s : Source) (names : List Known) (kernels : List CheckedKernel) (before literals at n : ℕ) (inner more : RawItems)
    (done copies : List Statement) (marks : List Mark) →
    IsPart s names kernels before literals inner done marks Nothing →
    Repeated (number_at s n) (StandFor s names kernels before inner) copies → AllZip (HasMark s) copies (copies_of (number_at s n) marks) →
    IsPart s names kernels before literals (Block at (Repeat n) inner more) copies (copies_of (number_at s n) marks) more
a_repeat s names kernels before literals at n inner more done copies marks part repeated have = record {
  literals_are = counted before (literals_in s inner) (literals_in s more) ∙ ap (λ k. k + length (literals_in s more)) all_read;
  marks_are = ap (λ ms. copies_of (number_at s n) ms ++ marks_of s more) (part.marks_are ∙ append-nil marks);
  have_marks = have;
  stand = λ behind h. (copies, behind, refl, repeated, subst (λ k. StandFor s names kernels k more behind) (sym all_read) h);
} where
  all_read : before + length (literals_in s inner) ≡ literals
  all_read = omega (arith, part.literals_are)

pub a_when : (s : Source) (names : List Known) (kernels : List CheckedKernel) (before literals at name test : ℕ) (value : RawNumber) (inner more : RawItems)
    (x : Statement) (done : List Statement) (marks : List Mark) →
    IsPart s names kernels before literals inner done marks Nothing →
    IsStatement s names kernels before (length done) at (When name test value) x →
    IsPart s names kernels before literals (Block at (When name test value) inner more) (x ∷ done) (record { at = at; tested = true } ∷ marks) more
a_when s names kernels before literals at name test value inner more x done marks part is = record {
  literals_are = counted before (literals_in s inner) (literals_in s more) ∙ ap (λ k. k + length (literals_in s more)) all_read;
  marks_are = ap (λ ms. record { at = at; tested = true } ∷ ms ++ marks_of s more) (part.marks_are ∙ append-nil marks);
  have_marks = (when_mark s names kernels before (length done) at name test value x is, part.have_marks);
  stand = λ behind h. (x, done, behind, refl, is, whole, subst (λ k. StandFor s names kernels k more behind) (sym all_read) h);
} where
  all_read : before + length (literals_in s inner) ≡ literals
  all_read = omega (arith, part.literals_are)

  whole : StandFor s names kernels before inner done
  whole = subst (StandFor s names kernels before inner) (append-nil done) (part.stand [] refl)
