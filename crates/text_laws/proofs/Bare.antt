-- What items mean in one place they mean in another, whatever is said of their kernels beside their events.
use Rattle.std.proofs.Common.{ℕ, zero, suc, ◌+◌, ◌≡◌, true, false, List, ◌∷◌, ◌++◌, length, Option, refl, sym, ap, ◌∙◌, subst}
use Rattle.job_base.specs.declared.limits.TheConstants.{MOST_STATEMENTS, MOST_TESTS}
use Rattle.frame_ast.specs.declared.kernel.Kernel.{Kernel as CheckedKernel}
use Rattle.frame_ast.specs.declared.script.Statement.{Statement}
use Rattle.frame_ast.specs.declared.script.Script.{Script}
use Rattle.frame_grammar.specs.declared.symbols.Event.{Event}
use Rattle.frame_ast.specs.Lists.{first_some}
use Rattle.kernel_raw.specs.declared.raw.RawKernel.{RawKernel}
use Rattle.kernel_raw.specs.declared.fault.StaticFault.{StaticFault}
use Rattle.script_text.specs.declared.source.Source.{Source}
use Rattle.script_text.specs.Sources.{number_at}
use Rattle.script_names.specs.Names.{Name}
use Rattle.script_text.specs.Raw.{OrderForm, Repeat, RawItems, Nothing, Kernel, Single, Block}
use Rattle.script_checks.specs.Faults.{Scope, order_faults}
use Rattle.frame_script.specs.Files.{IsRawOf, IsFaultless, HasFault, literals_of, literals_in, Repeated, IsStatement, StandFor, Mark, copies_of, marks_of, excess, too_long, IsScriptOf, in_block}
use Rattle.frame_script.specs.Files as file
use Rattle.text_laws.proofs.Sources.{SameFile, same_line, same_number, same_faults, same_after, same_literals, same_says}
use Rattle.text_laws.proofs.Items.{bare}

module _ (s t : Source) (same : SameFile s t) where
  raw_there : (events : List Event) (raw : RawKernel) → IsRawOf s events raw → IsRawOf t events raw
  raw_there events raw is = record { source = is.source ∙ same.bytes; marks = is.marks ∙ same.marks; line = is.line; spells = is.spells }

  fault_there : {X : Option StaticFault} (c : Scope) (at : ℕ) (form : OrderForm) → first_some (order_faults s c at form) ≡ X
      → first_some (order_faults t c at form) ≡ X
  fault_there c at form e = ap first_some (sym (same_faults s t same c at form)) ∙ e

  -- FAULTS

  pub faultless_there : {c end : Scope} {items : RawItems} → IsFaultless s c items end → IsFaultless t c (bare items) end
  faultless_there file.nothing = file.nothing
  faultless_there (file.kernel {events = events} raw k is none kernel more) = file.kernel raw k (raw_there events raw is) none kernel (faultless_there more)
  faultless_there {end = end} (file.single {c = c} {at = at} {order = order} {more = more} none left) =
      file.single (fault_there c at order none) (subst (λ d. IsFaultless t d (bare more) end) (same_after s t same c order) (faultless_there left))
  faultless_there (file.block {c = c} {at = at} {head = head} last none inner more) =
      file.block last (fault_there c at head none) (faultless_there inner) (faultless_there more)

  pub faulty_there : {fault : StaticFault} {c : Scope} {items : RawItems} → HasFault s fault c items → HasFault t fault c (bare items)
  faulty_there (file.in_kernel {events = events} raw is some) = file.in_kernel raw (raw_there events raw is) some
  faulty_there (file.behind_kernel {events = events} raw k is none kernel more) =
      file.behind_kernel raw k (raw_there events raw is) none kernel (faulty_there more)
  faulty_there (file.in_single {c = c} {at = at} {order = order} some) = file.in_single (fault_there c at order some)
  faulty_there {fault} (file.behind_single {c = c} {at = at} {order = order} {more = more} none left) =
      file.behind_single (fault_there c at order none) (subst (λ d. HasFault t fault d (bare more)) (same_after s t same c order) (faulty_there left))
  faulty_there (file.in_head {c = c} {at = at} {head = head} some) = file.in_head (fault_there c at head some)
  faulty_there (file.in_inner {c = c} {at = at} {head = head} none inner) = file.in_inner (fault_there c at head none) (faulty_there inner)
  faulty_there (file.behind_block {c = c} {at = at} {head = head} last none inner more) =
      file.behind_block last (fault_there c at head none) (faultless_there inner) (faulty_there more)

  -- LENGTH

  pub marks_there : (items : RawItems) → marks_of s items ≡ marks_of t (bare items)
  marks_there Nothing = refl
  marks_there (Kernel events form more) = marks_there more
  marks_there (Single at order more) = ap (λ ms. record { at = at; tested = false } ∷ ms) (marks_there more)
  marks_there (Block at (Repeat n) inner more) = λ i. copies_of (same_number s t same n i) (marks_there inner i) ++ marks_there more i
  marks_there (Block at _ inner more) = λ i. record { at = at; tested = true } ∷ marks_there inner i ++ marks_there more i

  pub too_long_there : (items : RawItems) → too_long s items ≡ too_long t (bare items)
  too_long_there items = ap (excess MOST_STATEMENTS MOST_TESTS) (marks_there items)

  -- SCRIPTS

  pub literals_there : (items : RawItems) → literals_in s items ≡ literals_in t (bare items)
  literals_there Nothing = refl
  literals_there (Kernel events form more) = literals_there more
  literals_there (Single at order more) = λ i. same_literals s t same order i ++ literals_there more i
  literals_there (Block at head inner more) = λ i. literals_there inner i ++ literals_there more i

  statement_there : (names : List Name) (kernels : List CheckedKernel) (literals count at : ℕ) (form : OrderForm) (x : Statement)
      → IsStatement s names kernels literals count at form x → IsStatement t names kernels literals count at form x
  statement_there names kernels literals count at form x is = record {
    line = is.line ∙ same_line s t same at;
    says = same_says s t same names kernels literals count form x.act is.says;
  }

  repeated_there : (n : ℕ) (Is Was : List Statement → Type 0) → ((xs : List Statement) → Is xs → Was xs) → (xs : List Statement) → Repeated n Is xs
      → Repeated n Was xs
  repeated_there zero Is Was there xs h = h
  repeated_there (suc n) Is Was there xs h = (h.0, h.1, h.2, there h.0 h.3, repeated_there n Is Was there h.1 h.4)

  pub stand_there : (names : List Name) (kernels : List CheckedKernel) (literals : ℕ) (items : RawItems) (xs : List Statement)
      → StandFor s names kernels literals items xs → StandFor t names kernels literals (bare items) xs
  stand_there names kernels literals Nothing xs h = h
  stand_there names kernels literals (Kernel events form more) xs h = stand_there names kernels literals more xs h
  stand_there names kernels literals (Single at order more) xs h = (
    h.0,
    h.1,
    h.2,
    statement_there names kernels literals 0 at order h.0 h.3,
    subst (λ n. StandFor t names kernels n (bare more) h.1) (ap (λ ls. literals + length ls) (same_literals s t same order))
        (stand_there names kernels (literals + length (literals_of s order)) more h.1 h.4),
  )
  stand_there names kernels literals (Block at (Repeat n) inner more) xs h = (
    h.0,
    h.1,
    h.2,
    subst (λ m. Repeated m (StandFor t names kernels literals (bare inner)) h.0) (same_number s t same n)
        (repeated_there (number_at s n) (StandFor s names kernels literals inner) (StandFor t names kernels literals (bare inner))
        (stand_there names kernels literals inner) h.0 h.3),
    subst (λ n. StandFor t names kernels n (bare more) h.1) (ap (λ ls. literals + length ls) (literals_there inner))
        (stand_there names kernels (literals + length (literals_in s inner)) more h.1 h.4),
  )
  stand_there names kernels literals (Block at head inner more) xs h = (
    h.0,
    h.1,
    h.2,
    h.3,
    statement_there names kernels literals (length h.1) at head h.0 h.4,
    stand_there names kernels literals inner h.1 h.5,
    subst (λ n. StandFor t names kernels n (bare more) h.2) (ap (λ ls. literals + length ls) (literals_there inner))
        (stand_there names kernels (literals + length (literals_in s inner)) more h.2 h.6),
  )

  pub script_there : (items : RawItems) (script : Script) → IsScriptOf s items script → IsScriptOf t (bare items) script
  script_there items script is = record {
    known = is.known;
    faultless = faultless_there is.faultless;
    kernels = is.kernels;
    names = is.names;
    literals = is.literals ∙ literals_there items;
    statements = stand_there is.known.names is.known.kernels 0 items script.statements.items is.statements;
  }
