-- Copies of statements stand for what the statements stand for.
use Rattle.std.proofs.Common.{◌≡◌, ◌+◌, ◌∙◌, ℕ, zero, suc, true, false, List, [], ◌∷◌, ◌++◌, refl, sym, ap, subst, length}
use Rattle.std.specs.List.{AllZip}
use Rattle.frame_ast.specs.declared.kernel.Kernel.{Kernel as CheckedKernel}
use Rattle.frame_ast.specs.declared.script.Order.{Order}
use Rattle.frame_ast.specs.declared.script.Order.TheVariants as order
use Rattle.frame_ast.specs.declared.script.Statement.{Statement}
use Rattle.script_text.specs.declared.source.Source.{Source}
use Rattle.script_text.specs.Raw.{RawItems, Nothing, Kernel, Single, Block, OrderForm, NewArray, NewColumn, NewList, NewReference, NewMap, NewStream, Slice, View, Copy, Set, Add, Put, Remove, Clear, SetCapacity, Schedule, Combine, Complete, Dispose, DisposeAuto, Print, Flush, Frame, Repeat, When}
use Rattle.script_names.specs.Names.{Name as Known}
use Rattle.script_checks.specs.Spelling.{Says}
use Rattle.frame_script.specs.Files.{Repeated, IsStatement, StandFor, Mark, copies_of, literals_in, literals_of}
use Rattle.frame_script.specs.Copies.{IsCopyOf, IsCopy, AreCopies}
use Rattle.frame_ast.specs.Accepted.{is_when}
use Rattle.frame_script.specs.Writing.{HasMark}
use Rattle.frame_script.proofs.Writing.Parts.{zipped}

-- ONE STATEMENT

-- what is said to be an order is said of its copies
copy_of : (o x y : Order) → x ≡ o → IsCopyOf x y → IsCopyOf o y
copy_of o x y e c = subst (λ z. IsCopyOf z y) e c

copy_says : (s : Source) (names : List Known) (kernels : List CheckedKernel) (literals count : ℕ) (form : OrderForm) (x y : Order) →
    Says s names kernels literals count form x → IsCopyOf x y → Says s names kernels literals count form y
copy_says s names kernels literals count (NewArray name len life values) x y says c = copy_of _ x y says c
copy_says s names kernels literals count (NewColumn name column life) x y says c =
    let same = copy_of _ x y says.2 c in
    (same.0, same.1 ∙ says.1, same.2)
copy_says s names kernels literals count (NewList name cap life) x y says c = copy_of _ x y says c
copy_says s names kernels literals count (NewReference name life value) x y says c = copy_of _ x y says c
copy_says s names kernels literals count (NewMap name cap life) x y says c = copy_of _ x y says c
copy_says s names kernels literals count (NewStream name indexes room life) x y says c = copy_of _ x y says c
copy_says s names kernels literals count (Slice name of start len) x y says c = copy_of _ x y says c
copy_says s names kernels literals count (View name of) x y says c = copy_of _ x y says c
copy_says s names kernels literals count (Copy name of) x y says c = copy_of _ x y says c
copy_says s names kernels literals count (Set name at value) x y says c = copy_of _ x y says c
copy_says s names kernels literals count (Add name one two) x y says c = copy_of _ x y says c
copy_says s names kernels literals count (Put name key value) x y says c = copy_of _ x y says c
copy_says s names kernels literals count (Remove name at) x y says c = copy_of _ x y says c
copy_says s names kernels literals count (Clear name) x y says c = copy_of _ x y says c
copy_says s names kernels literals count (SetCapacity name cap) x y says c = copy_of _ x y says c
copy_says s names kernels literals count (Schedule auto handle kernel args cut waive after) x y says c =
    let same = copy_of _ x y says.2 c in
    let said = says.1 in
    let copied = same.1 in (
      same.0,
      record {
        auto_is = copied.auto ∙ said.auto_is;
        handle_is = copied.handle ∙ said.handle_is;
        kernel_is = copied.kernel ∙ said.kernel_is;
        args_are = copied.args ∙ said.args_are;
        cut_is = copied.cut ∙ said.cut_is;
        defer_is = copied.defer ∙ said.defer_is;
        waive_are = copied.waive ∙ said.waive_are;
        after_are = copied.after ∙ said.after_are;
      },
      same.2,
    )
copy_says s names kernels literals count (Combine name of) x y says c =
    let same = copy_of _ x y says.2 c in
    (same.0, same.1 ∙ says.1, same.2)
copy_says s names kernels literals count (Complete true name) x y says c = copy_of _ x y says c
copy_says s names kernels literals count (Complete false name) x y says c = copy_of _ x y says c
copy_says s names kernels literals count (Dispose name after handle) x y says c =
    let same = copy_of _ x y says.2 c in
    (same.0, same.1 ∙ says.1, same.2)
copy_says s names kernels literals count (DisposeAuto name handle) x y says c = copy_of _ x y says c
copy_says s names kernels literals count (Print name) x y says c = copy_of _ x y says c
copy_says s names kernels literals count Flush x y says c = copy_of _ x y says c
copy_says s names kernels literals count Frame x y says c = copy_of _ x y says c
copy_says s names kernels literals count (Repeat n) x y says c = absurd says
copy_says s names kernels literals count (When name test value) x y says c = copy_of _ x y says c

copy_is : {s : Source} {names : List Known} {kernels : List CheckedKernel} {literals count at : ℕ} {form : OrderForm} (x y : Statement) →
    IsStatement s names kernels literals count at form x → IsCopy x y → IsStatement s names kernels literals count at form y
copy_is {s} {names} {kernels} {literals} {count} {at} {form} x y is c = record {
  line = c.0 ∙ is.line;
  says = copy_says s names kernels literals count form x.act y.act is.says c.1;
}

copy_test : (x y : Order) → IsCopyOf x y → is_when y ≡ is_when x
copy_test (order.Column name column life) y c = ap is_when c.2
copy_test (order.Schedule job) y c = ap is_when c.2
copy_test (order.Combine name of) y c = ap is_when c.2
copy_test (order.Dispose name after handle) y c = ap is_when c.2
copy_test _ y c = ap is_when c

-- LISTS

pub copies_have_marks : (s : Source) (xs ys : List Statement) (marks : List Mark) → AllZip (HasMark s) xs marks → AreCopies xs ys → AllZip (HasMark s) ys marks
copies_have_marks s [] [] [] have c = tt
copies_have_marks s [] [] (m ∷ marks) have c = absurd have
copies_have_marks s [] (y ∷ ys) marks have c = absurd c
copies_have_marks s (x ∷ xs) [] marks have c = absurd c
copies_have_marks s (x ∷ xs) (y ∷ ys) [] have c = absurd have
copies_have_marks s (x ∷ xs) (y ∷ ys) (m ∷ marks) have c =
    ((c.0.0 ∙ have.0.0, copy_test x.act y.act c.0.1 ∙ have.0.1), copies_have_marks s xs ys marks have.1 c.1)

-- the copies of two lists, one behind the other
record CopiesOfBoth (xs xs' ys : List Statement) : Type 0 where
  front : List Statement
  back : List Statement
  ys_are : ys ≡ front ++ back
  front_are : AreCopies xs front
  back_are : AreCopies xs' back

both_copies : (xs xs' ys : List Statement) → AreCopies (xs ++ xs') ys → CopiesOfBoth xs xs' ys
both_copies [] xs' ys c = record { front = []; back = ys; ys_are = refl; front_are = tt; back_are = c }
both_copies (x ∷ xs) xs' [] c = absurd c
both_copies (x ∷ xs) xs' (y ∷ ys) c =
    let others = both_copies xs xs' ys c.1 in
    record {
      front = y ∷ others.front;
      back = others.back;
      ys_are = ap (λ zs. y ∷ zs) others.ys_are;
      front_are = (c.0, others.front_are);
      back_are = others.back_are;
    }

pub copies_length : (xs ys : List Statement) → AreCopies xs ys → length xs ≡ length ys
copies_length [] [] c = refl
copies_length [] (y ∷ ys) c = absurd c
copies_length (x ∷ xs) [] c = absurd c
copies_length (x ∷ xs) (y ∷ ys) c = ap (λ n. suc n) (copies_length xs ys c.1)

abbrev Kept : (List Statement → Type 0) → Type 0
Kept Is = (xs ys : List Statement) → Is xs → AreCopies xs ys → Is ys

copies_repeated : (n : ℕ) (Is : List Statement → Type 0) → Kept Is → Kept (Repeated n Is)
copies_repeated zero Is kept [] [] is c = refl
copies_repeated zero Is kept [] (y ∷ ys) is c = absurd c
copies_repeated zero Is kept (x ∷ xs) ys is c = absurd cc
copies_repeated (suc n) Is kept xs ys (one, rest, xs_are, is, others) c =
    let both = both_copies one rest ys (subst (λ zs. AreCopies zs ys) xs_are c) in
    (both.front, both.back, both.ys_are, kept one both.front is both.front_are, copies_repeated n Is kept rest both.back others both.back_are)

-- the copies of a list that begins with a statement
record CopiesBehind (x : Statement) (xs ys : List Statement) : Type 0 where
  first : Statement
  back : List Statement
  ys_are : ys ≡ first ∷ back
  first_is : IsCopy x first
  back_are : AreCopies xs back

copies_behind : (x : Statement) (xs ys : List Statement) → AreCopies (x ∷ xs) ys → CopiesBehind x xs ys
copies_behind x xs [] c = absurd c
copies_behind x xs (y ∷ ys) c = record { first = y; back = ys; ys_are = refl; first_is = c.0; back_are = c.1 }

no_copies : (xs ys : List Statement) → xs ≡ [] → AreCopies xs ys → ys ≡ []
no_copies [] [] e c = refl
no_copies [] (y ∷ ys) e c = absurd c
no_copies (x ∷ xs) ys e c = absurd cc

copies_as : (xs xs' ys : List Statement) → xs ≡ xs' → AreCopies xs ys → AreCopies xs' ys
copies_as xs xs' ys e c = subst (λ zs. AreCopies zs ys) e c

-- a `when`, its block and what is behind
copies_of_when : (s : Source) (names : List Known) (kernels : List CheckedKernel) (literals at : ℕ) (head : OrderForm) (Inner More : List Statement → Type 0)
    → Kept Inner → Kept More →
    Kept (λ statements. (x : Statement) × (body rest : List Statement) × (statements ≡ x ∷ body ++ rest)
    × IsStatement s names kernels literals (length body) at head x × Inner body × More rest)
copies_of_when s names kernels literals at head Inner More kept_inner kept_more xs ys (x, body, rest, xs_are, is, inside, others) c =
    let first = copies_behind x (body ++ rest) ys (copies_as xs _ ys xs_are c) in
    let both = both_copies body rest first.back first.back_are in (
      first.first,
      both.front,
      both.back,
      first.ys_are ∙ ap (λ zs. first.first ∷ zs) both.ys_are,
      subst (λ n. IsStatement s names kernels literals n at head first.first) (copies_length body both.front both.front_are)
          (copy_is x first.first is first.first_is),
      kept_inner body both.front inside both.front_are,
      kept_more rest both.back others both.back_are,
    )

pub copies_stand : (s : Source) (names : List Known) (kernels : List CheckedKernel) (literals : ℕ) (items : RawItems)
    → Kept (StandFor s names kernels literals items)
copies_stand s names kernels literals Nothing xs ys e c = no_copies xs ys e c
copies_stand s names kernels literals (Kernel events form more) xs ys h c = copies_stand s names kernels literals more xs ys h c
copies_stand s names kernels literals (Single at form more) xs ys (x, rest, xs_are, is, others) c =
    let first = copies_behind x rest ys (copies_as xs _ ys xs_are c) in (
      first.first,
      first.back,
      first.ys_are,
      copy_is x first.first is first.first_is,
      copies_stand s names kernels (literals + length (literals_of s form)) more rest first.back others first.back_are,
    )
copies_stand s names kernels literals (Block at (Repeat n) inner more) xs ys (copies, rest, xs_are, repeated, others) c =
    let both = both_copies copies rest ys (copies_as xs _ ys xs_are c) in (
      both.front,
      both.back,
      both.ys_are,
      copies_repeated _ (StandFor s names kernels literals inner) (λ xs' ys' h c'. copies_stand s names kernels literals inner xs' ys' h c') copies both.front
          repeated both.front_are,
      copies_stand s names kernels (literals + length (literals_in s inner)) more rest both.back others both.back_are,
    )
copies_stand s names kernels literals (Block at head inner more) xs ys h c =
    copies_of_when s names kernels literals at head (StandFor s names kernels literals inner)
    (StandFor s names kernels (literals + length (literals_in s inner)) more)
    (λ xs' ys' h' c'. copies_stand s names kernels literals inner xs' ys' h' c')
    (λ xs' ys' h' c'. copies_stand s names kernels (literals + length (literals_in s inner)) more xs' ys' h' c') xs ys h c

-- copies of a list, so many times, stand for what the list stands for, and have its marks as often

pub repeated_stand : (n : ℕ) (Is : List Statement → Type 0) (block : List Statement) → Kept Is → Is block → (xs : List Statement)
    → Repeated n (AreCopies block) xs → Repeated n Is xs
repeated_stand zero Is block kept is xs e = e
repeated_stand (suc n) Is block kept is xs (one, rest, xs_are, c, others) =
    (one, rest, xs_are, kept block one is c, repeated_stand n Is block kept is rest others)

pub repeated_have_marks : (n : ℕ) (s : Source) (block : List Statement) (marks : List Mark) → AllZip (HasMark s) block marks →
    (xs : List Statement) → Repeated n (AreCopies block) xs → AllZip (HasMark s) xs (copies_of n marks)
repeated_have_marks zero s block marks have xs e = subst (λ zs. AllZip (HasMark s) zs []) (sym e) tt
repeated_have_marks (suc n) s block marks have xs (one, rest, xs_are, c, others) =
    subst (λ zs. AllZip (HasMark s) zs (marks ++ copies_of n marks)) (sym xs_are)
    (zipped (HasMark s) one rest marks (copies_of n marks) (copies_have_marks s block one marks have c) (repeated_have_marks n s block marks have rest others))
