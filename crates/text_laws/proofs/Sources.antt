-- What is read of a file, wherever its bytes and its marks lie in memory.
use Rattle.std.proofs.Common.{ℕ, ◌≡◌, refl, sym, ◌∙◌, subst, ap, List}
use Rattle.frame_ast.specs.declared.kernel.Kernel.{Kernel}
use Rattle.frame_ast.specs.declared.script.Order.{Order}
use Rattle.kernel_text.specs.declared.mark.Mark.{Mark}
use Rattle.script_text.specs.declared.source.Source.{Source}
use Rattle.script_text.specs.Sources.{line_at, number_at}
use Rattle.script_text.specs.Raw.{OrderForm, Schedule}
use Rattle.script_names.specs.Names.{Name}
use Rattle.script_checks.specs.Faults.{Scope, order_faults}
use Rattle.script_checks.specs.Spelling.{Says}
use Rattle.frame_script.specs.Files.{after_order, literals_of}

pub record SameFile (s t : Source) : Type 0 where
  pub bytes : s.bytes.now ≡ t.bytes.now
  pub marks : s.marks.now ≡ t.marks.now

abbrev pub placed : Source → List ℕ → List Mark → Source
placed s bytes marks = record s { bytes = record s.bytes { now = bytes }; marks = record s.marks { now = marks } }

-- what depends on the bytes and the marks alone
abbrev pub ByText : {X : Type 0} → (Source → X) → Type 0
ByText f = (s t : Source) → f (placed s t.bytes.now t.marks.now) ≡ f t

pub by_text : {X : Type 0} (f : Source → X) → ByText f → (s t : Source) → SameFile s t → f s ≡ f t
by_text f by s t same =
    sym (by s s) ∙ ap (λ bytes. f (placed s bytes s.marks.now)) same.bytes ∙ ap (λ marks. f (placed s t.bytes.now marks)) same.marks ∙ by s t

-- and what is said of them
pub by_text_said : (f : Source → Type 0) → ((s t : Source) → f (placed s t.bytes.now t.marks.now) → f t)
    → ((s t : Source) → f t → f (placed s t.bytes.now t.marks.now)) → (s t : Source) → SameFile s t → f s → f t
by_text_said f out in_ s t same x =
    out s t (subst (λ marks. f (placed s t.bytes.now marks)) same.marks (subst (λ bytes. f (placed s bytes s.marks.now)) same.bytes (in_ s s x)))

-- a statement says the same there
says_out : (names : List Name) (kernels : List Kernel) (literals count : ℕ) (form : OrderForm) (o : Order) (s t : Source)
    → Says (placed s t.bytes.now t.marks.now) names kernels literals count form o → Says t names kernels literals count form o
says_out names kernels literals count (Schedule auto handle kernel args cut waive after) o s t (job, said, is) = (
  job,
  record {
    auto_is = said.auto_is;
    handle_is = said.handle_is;
    kernel_is = said.kernel_is;
    args_are = said.args_are;
    cut_is = said.cut_is;
    defer_is = said.defer_is;
    waive_are = said.waive_are;
    after_are = said.after_are;
  },
  is,
)
says_out names kernels literals count form o s t h = h

says_in : (names : List Name) (kernels : List Kernel) (literals count : ℕ) (form : OrderForm) (o : Order) (s t : Source)
    → Says t names kernels literals count form o → Says (placed s t.bytes.now t.marks.now) names kernels literals count form o
says_in names kernels literals count (Schedule auto handle kernel args cut waive after) o s t (job, said, is) = (
  job,
  record {
    auto_is = said.auto_is;
    handle_is = said.handle_is;
    kernel_is = said.kernel_is;
    args_are = said.args_are;
    cut_is = said.cut_is;
    defer_is = said.defer_is;
    waive_are = said.waive_are;
    after_are = said.after_are;
  },
  is,
)
says_in names kernels literals count form o s t h = h

module _ (s t : Source) (same : SameFile s t) where
  pub same_line : (at : ℕ) → line_at s at ≡ line_at t at
  same_line at = by_text (λ x. line_at x at) (λ s t. refl) s t same

  pub same_number : (at : ℕ) → number_at s at ≡ number_at t at
  same_number at = by_text (λ x. number_at x at) (λ s t. refl) s t same

  pub same_faults : (c : Scope) (at : ℕ) (form : OrderForm) → order_faults s c at form ≡ order_faults t c at form
  same_faults c at form = by_text (λ x. order_faults x c at form) (λ s t. refl) s t same

  pub same_after : (c : Scope) (form : OrderForm) → after_order s c form ≡ after_order t c form
  same_after c form = by_text (λ x. after_order x c form) (λ s t. refl) s t same

  pub same_literals : (form : OrderForm) → literals_of s form ≡ literals_of t form
  same_literals form = by_text (λ x. literals_of x form) (λ s t. refl) s t same

  pub same_says : (names : List Name) (kernels : List Kernel) (literals count : ℕ) (form : OrderForm) (o : Order) → Says s names kernels literals count form o
      → Says t names kernels literals count form o
  same_says names kernels literals count form o = by_text_said (λ x. Says x names kernels literals count form o) (says_out names kernels literals count form o)
      (says_in names kernels literals count form o) s t same
