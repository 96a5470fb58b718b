-- The steps of a walk over the items of a file.
use Rattle.std.proofs.Common.{◌≡◌, ℕ, ◌+◌, Bool, true, false, List, [], ◌∷◌, ◌++◌, length, length-append, map, reverse, None, refl, sym, ◌∙◌, ap, subst, arith, append_assoc, inr}
use Rattle.std.specs.Prelude.{All, IsUtf8, ◌||◌}
use Rattle.std.proofs.lemmas.List.{length-map, length-reverse, reverse-append, append-nil}
use Rattle.std.proofs.lemmas.List.Elements.{All-push, All-nil}
use Rattle.frame_ast.specs.declared.kernel.Kernel.{Kernel as CheckedKernel}
use Rattle.frame_ast.specs.Checked.{IsChecked}
use Rattle.frame_grammar.specs.declared.symbols.Event.{Event}
use Rattle.kernel_raw.specs.declared.fault.StaticFault.{StaticFault}
use Rattle.kernel_text.specs.Tokens.{kinds, NamesAreText}
use Rattle.frame_ast.specs.declared.script.Statement.{Statement}
use Rattle.frame_ast.specs.Lists.{first_some}
use Rattle.script_text.specs.declared.raw.RawNumber.{RawNumber}
use Rattle.script_text.specs.declared.source.Source.{Source}
use Rattle.frame_script.specs.declared.walk.Walk.{Walk}
use Rattle.script_text.specs.Raw.{OrderForm, RawItems, Nothing, Kernel, Single, Block, KernelForm, Repeat, When}
use Rattle.script_text.specs.Events.{closing}
use Rattle.script_text.specs.Places.{ItemsStand}
use Rattle.script_names.specs.Names.{Name}
use Rattle.script_text.specs.Sources.{file_tokens}
use Rattle.script_checks.specs.Faults.{Scope, order_faults}
use Rattle.script_checks.specs.Spelling.{Says}
use Rattle.frame_script.specs.Files.{IsStatement, at_start, after_order, after_kernel, in_block, is_when, literals_of, literals_in, nothing, kernel, behind_kernel}
use Rattle.frame_script.specs.Writing.{Completes, nothing_written}
use Rattle.frame_script.specs.Walking.{AddsKernel, KeepsNames, KeepsKernels, scope_of, lists_in, behind, LeftFaultless, LeftFaulty, literals_left, IsAt, TakesSingle, TakesRepeat, TakesWhen, Enters, Leaves}
use Rattle.frame_script.proofs.Writing.Items.{begins, past_kernel, past_single, into_repeat, into_when, out_of_block}
use Rattle.frame_script.proofs.Walking.KeptPlaces.{names_kept, kernel_kept, kernels_kept}
use Rattle.frame_script.proofs.Walking.KeptOrders.{says_kept}
use Rattle.frame_script.proofs.Walking.FaultsLeft.{single_faultless, single_faulty, block_faultless, block_faulty}
use Rattle.frame_script.proofs.Walking.NamesAreText.{names_are_text}

-- scopes of the same parts
same_scope : {n n' : List Name} {k k' : List CheckedKernel} {b b' : ℕ} {t t' : Bool} → n ≡ n' → k ≡ k' → b ≡ b' → t ≡ t' →
    ◌≡◌ {A = Scope} (record { names = n; kernels = k; blocks = b; tested = t }) (record { names = n'; kernels = k'; blocks = b'; tested = t' })
same_scope {n' = n'} {k} {k'} {b} {b'} {t} {t'} e f g h =
    ap (λ x. record { names = x; kernels = k; blocks = b; tested = t }) e
    ∙ (ap (λ x. record { names = n'; kernels = x; blocks = b; tested = t }) f
    ∙ (ap (λ x. record { names = n'; kernels = k'; blocks = x; tested = t }) g
    ∙ ap (λ x. record { names = n'; kernels = k'; blocks = b'; tested = x }) h))

-- what is left from an equal scope
left_of : (s : Source) (left : List RawItems) (end : Scope) {c d : Scope} {a b : List Bool} → c ≡ d → a ≡ b → LeftFaultless s c a left end
    → LeftFaultless s d b left end
left_of s left end {d = d} {a} e f h = subst (λ x. LeftFaultless s d x left end) f (subst (λ x. LeftFaultless s x a left end) e h)

faulty_of : (s : Source) (fault : StaticFault) (left : List RawItems) {c d : Scope} {a b : List Bool} → c ≡ d → a ≡ b → LeftFaulty s fault c a left
    → LeftFaulty s fault d b left
faulty_of s fault left {d = d} {a} e f h = subst (λ x. LeftFaulty s fault d x left) f (subst (λ x. LeftFaulty s fault x a left) e h)

-- BEFORE THE FIRST ITEM

pub at_first : (s : Source) (whole : RawItems) (w : Walk) → ItemsStand (kinds (file_tokens s)) whole → w.names ≡ [] → w.kernels ≡ [] → w.literals.items ≡ []
    → w.written ≡ nothing_written → w.tested ≡ false → w.outer_tests.items ≡ [] →
    IsAt s whole w (whole ∷ [])
at_first s whole w stand names kernels literals written tested around =
    let scope : scope_of w ≡ at_start = same_scope names kernels (ap length around) tested in
    let open_ : reverse w.outer_tests.items ≡ [] = ap reverse around in
    record {
      deep = ap (λ bs. 1 + length bs) (sym around);
      stand = (stand, tt);
      faultless = λ end h. left_of s (whole ∷ []) end scope open_ h;
      faulty = λ fault h. faulty_of s fault (whole ∷ []) scope open_ h;
      literals = ap (λ vs. map (λ v. v.items) vs ++ (literals_in s whole ++ [])) literals ∙ append-nil (literals_in s whole);
      written = λ names' kernels' keeps more.
          subst (λ n. Completes s names' kernels' n w.written (whole ∷ []) whole) (sym (ap length literals))
          (subst (λ x. Completes s names' kernels' 0 x (whole ∷ []) whole) (sym written) (begins s names' kernels' whole));
      texts = subst (All (λ n. IsUtf8 n.text)) (sym names) (All-nil (λ n. IsUtf8 n.text));
      checked = subst (All IsChecked) (sym kernels) (All-nil IsChecked);
    }

-- A STATEMENT WITHOUT A BLOCK

regrouped : {A : Type 0} (kept own more rest : List A) → (kept ++ own) ++ (more ++ rest) ≡ kept ++ ((own ++ more) ++ rest)
regrouped kept own more rest = append_assoc kept own (more ++ rest) ∙ ap (λ x. kept ++ x) (sym (append_assoc own more rest))

-- the statement in the end
stated : (s : Source) (at : ℕ) (form : OrderForm) (old new : Walk) (names : List Name) (kernels : List CheckedKernel)
    → first_some (order_faults s (scope_of old) at form) ≡ None →
    (t : TakesSingle s at form old new) → KeepsNames new.names names → KeepsKernels old.kernels kernels
    → IsStatement s names kernels (length old.literals.items) 0 at form t.statement
stated s at form old new names kernels none t keeps more = record {
  line = t.is.line;
  says = says_kept s (scope_of old) names kernels form at (length old.literals.items) 0 t.statement.act none
      (subst (λ ns. KeepsNames ns names) t.names keeps) more
      (subst (λ ns. Says s ns old.kernels (length old.literals.items) 0 form t.statement.act) t.names t.is.says);
}

pub past_a_single : (s : Source) (whole more : RawItems) (rest : List RawItems) (at : ℕ) (form : OrderForm) (old new : Walk)
    → NamesAreText s.bytes.now (file_tokens s) → closing form ≡ None →
    first_some (order_faults s (scope_of old) at form) ≡ None → TakesSingle s at form old new → IsAt s whole old (Single at form more ∷ rest)
    → IsAt s whole new (more ∷ rest)
past_a_single s whole more rest at form old new texts no_block none t is =
    let scope : scope_of new ≡ after_order s (scope_of old) form = same_scope t.names t.kernels (ap (λ v. length v.items) t.around) t.tested in
    let around : reverse new.outer_tests.items ≡ reverse old.outer_tests.items = ap (λ v. reverse v.items) t.around in
    let count : length old.literals.items + length (literals_of s form) ≡ length new.literals.items =
    ap (λ n. n + length (literals_of s form)) (sym (length-map old.literals.items (λ v. v.items)))
    ∙ (sym (length-append (lists_in old.literals) (literals_of s form)) ∙ (sym (ap length t.literals) ∙ length-map new.literals.items (λ v. v.items))) in
    record {
      deep = is.deep ∙ ap (λ v. 1 + length v.items) (sym t.around);
      stand = (is.stand.0.2, is.stand.1);
      faultless = λ end h. is.faultless end (single_faultless s (scope_of old) (reverse old.outer_tests.items) at form more rest end none
          (left_of s (more ∷ rest) end scope around h));
      faulty = λ fault h. is.faulty fault (single_faulty s fault (scope_of old) (reverse old.outer_tests.items) at form more rest none
          (faulty_of s fault (more ∷ rest) scope around h));
      literals = ap (λ x. x ++ (literals_in s more ++ literals_left s rest)) t.literals
          ∙ (regrouped (lists_in old.literals) (literals_of s form) (literals_in s more) (literals_left s rest) ∙ is.literals);
      written = λ names kernels keeps more_kernels.
          let old_names = names_kept s old.names names form (subst (λ ns. KeepsNames ns names) t.names keeps) in
          let old_kernels = subst (λ ks. KeepsKernels ks kernels) t.kernels more_kernels in
          subst (λ n. Completes s names kernels n new.written (more ∷ rest) whole) count
          (subst (λ w. Completes s names kernels (length old.literals.items + length (literals_of s form)) w (more ∷ rest) whole) (sym t.written)
          (past_single t.statement no_block (stated s at form old new names kernels none t keeps old_kernels)
          (is.written names kernels old_names old_kernels)));
      texts = subst (All (λ n. IsUtf8 n.text)) (sym t.names) (names_are_text s old.names form texts is.stand.0.1 is.texts);
      checked = subst (All IsChecked) (sym t.kernels) is.checked;
    }

-- A KERNEL

no_blocks : (w : Walk) (items : RawItems) → length (items ∷ []) ≡ 1 + length w.outer_tests.items → w.outer_tests.items ≡ []
no_blocks w items deep = by w.outer_tests.items (omega (arith, deep)) where
  by : (bs : List Bool) → length bs ≡ 0 → bs ≡ []
  by [] h = refl
  by (b ∷ bs) h = cc

pub past_a_kernel : (s : Source) (whole more : RawItems) (events : List Event) (form : KernelForm) (old new : Walk) (kernels : List CheckedKernel)
    → AddsKernel s events old.kernels kernels →
    new ≡ record old { kernels = kernels } → IsAt s whole old (Kernel events form more ∷ []) → IsAt s whole new (more ∷ [])
past_a_kernel s whole more events form old new kernels adds new_is is =
    let empty : reverse old.outer_tests.items ≡ [] = ap reverse (no_blocks old (Kernel events form more) is.deep) in
    let known : kernels ≡ old.kernels ++ adds.kernel ∷ [] = adds.added in
    let next : Scope = after_kernel (scope_of old) adds.kernel in
    let scope : scope_of (record old { kernels = kernels }) ≡ next = same_scope refl known refl refl in
    subst (λ w. IsAt s whole w (more ∷ [])) (sym new_is) (record {
      deep = is.deep;
      stand = (is.stand.0.1, is.stand.1);
      faultless = λ end h. is.faultless end (left_of s (Kernel events form more ∷ []) end refl (sym empty)
          (kernel adds.raw adds.kernel adds.is_raw adds.faultless adds.kernel_is (left_of s (more ∷ []) end scope empty h)));
      faulty = λ fault h. is.faulty fault (faulty_of s fault (Kernel events form more ∷ []) refl (sym empty)
          (behind_kernel adds.raw adds.kernel adds.is_raw adds.faultless adds.kernel_is (faulty_of s fault (more ∷ []) scope empty h)));
      literals = is.literals;
      written = λ names final keeps more_kernels.
          let kept : KeepsKernels old.kernels kernels = subst (λ ks. KeepsKernels old.kernels ks) (sym known) (kernel_kept old.kernels adds.kernel) in
          past_kernel (is.written names final keeps (kernels_kept old.kernels kernels final kept more_kernels));
      texts = is.texts;
      checked = subst (All IsChecked) (sym known) (All-push IsChecked old.kernels adds.kernel is.checked adds.checked);
    })

-- BLOCKS

-- what is known in a block
in_scope : (old new : Walk) (head : OrderForm) → Enters old new → new.tested ≡ (scope_of old).tested || is_when head
    → scope_of new ≡ in_block (scope_of old) head
in_scope old new head e tested = same_scope e.names e.kernels (ap length e.around ∙ length-append old.outer_tests.items (old.tested ∷ [])) tested

in_around : (old new : Walk) → Enters old new → reverse new.outer_tests.items ≡ old.tested ∷ reverse old.outer_tests.items
in_around old new e = ap reverse e.around ∙ reverse-append old.outer_tests.items (old.tested ∷ [])

depth_of : (old : Walk) → (scope_of old).blocks ≡ length (reverse old.outer_tests.items)
depth_of old = sym (length-reverse old.outer_tests.items)

pub into_a_block : (s : Source) (whole inner more : RawItems) (rest : List RawItems) (at : ℕ) (head : OrderForm) (old new : Walk)
    → first_some (order_faults s (scope_of old) at head) ≡ None →
    Enters old new → new.tested ≡ (scope_of old).tested || is_when head →
    ((names : List Name) (kernels : List CheckedKernel) → KeepsNames old.names names → KeepsKernels old.kernels kernels
    → Completes s names kernels (length old.literals.items) new.written (inner ∷ more ∷ rest) whole) →
    IsAt s whole old (Block at head inner more ∷ rest) → IsAt s whole new (inner ∷ more ∷ rest)
into_a_block s whole inner more rest at head old new none e tested written is =
    let scope = in_scope old new head e tested in
    let around = in_around old new e in
    let depth : length new.outer_tests.items ≡ length old.outer_tests.items + 1 = ap length e.around ∙ length-append old.outer_tests.items (old.tested ∷ []) in
    record {
      deep = omega (arith, is.deep, depth);
      stand = (is.stand.0.2, (is.stand.0.3, is.stand.1));
      faultless = λ end h. is.faultless end (block_faultless s (scope_of old) (reverse old.outer_tests.items) at head inner more rest end (depth_of old) none
          (left_of s (inner ∷ more ∷ rest) end scope around h));
      faulty = λ fault h. is.faulty fault (block_faulty s fault (scope_of old) (reverse old.outer_tests.items) at head inner more rest (depth_of old) none
          (faulty_of s fault (inner ∷ more ∷ rest) scope around h));
      literals = ap (λ v. lists_in v ++ literals_left s (inner ∷ more ∷ rest)) e.literals
          ∙ (ap (λ x. lists_in old.literals ++ x) (sym (append_assoc (literals_in s inner) (literals_in s more) (literals_left s rest))) ∙ is.literals);
      written = λ names kernels keeps more_kernels.
          subst (λ v. Completes s names kernels (length v.items) new.written (inner ∷ more ∷ rest) whole) (sym e.literals)
          (written names kernels (subst (λ ns. KeepsNames ns names) e.names keeps) (subst (λ ks. KeepsKernels ks kernels) e.kernels more_kernels));
      texts = subst (All (λ n. IsUtf8 n.text)) (sym e.names) is.texts;
      checked = subst (All IsChecked) (sym e.kernels) is.checked;
    }

or_not : (b : Bool) → b ≡ b || false
or_not true = refl
or_not false = refl

or_so : (b : Bool) → true ≡ b || true
or_so true = refl
or_so false = refl

pub into_a_repeat : (s : Source) (whole inner more : RawItems) (rest : List RawItems) (at n : ℕ) (old new : Walk)
    → first_some (order_faults s (scope_of old) at (Repeat n)) ≡ None →
    TakesRepeat s n old new → IsAt s whole old (Block at (Repeat n) inner more ∷ rest) → IsAt s whole new (inner ∷ more ∷ rest)
into_a_repeat s whole inner more rest at n old new none t is =
    into_a_block s whole inner more rest at (Repeat n) old new none t.enters (t.tested ∙ or_not old.tested)
    (λ names kernels keeps more_kernels.
    subst (λ w. Completes s names kernels (length old.literals.items) w (inner ∷ more ∷ rest) whole) (sym t.written)
    (into_repeat t.least (is.written names kernels keeps more_kernels)))
    is

-- a `when` says the same whatever kernels and lists stand before it
when_says : (s : Source) (at name test : ℕ) (value : RawNumber) (old : Walk) (names : List Name) (kernels : List CheckedKernel) (x : Statement)
    → first_some (order_faults s (scope_of old) at (When name test value)) ≡ None →
    KeepsNames old.names names → KeepsKernels old.kernels kernels →
    IsStatement s old.names [] 0 0 at (When name test value) x → IsStatement s names kernels (length old.literals.items) 0 at (When name test value) x
when_says s at name test value old names kernels x none keeps more is = record {
  line = is.line;
  says = says_kept s (scope_of old) names kernels (When name test value) at (length old.literals.items) 0 x.act none keeps more is.says;
}

pub into_a_when : (s : Source) (whole inner more : RawItems) (rest : List RawItems) (at name test : ℕ) (value : RawNumber) (old new : Walk)
    → first_some (order_faults s (scope_of old) at (When name test value)) ≡ None →
    TakesWhen s at (When name test value) old new → IsAt s whole old (Block at (When name test value) inner more ∷ rest)
    → IsAt s whole new (inner ∷ more ∷ rest)
into_a_when s whole inner more rest at name test value old new none t is =
    into_a_block s whole inner more rest at (When name test value) old new none t.enters (t.tested ∙ or_so old.tested)
    (λ names kernels keeps more_kernels.
    subst (λ w. Completes s names kernels (length old.literals.items) w (inner ∷ more ∷ rest) whole) (sym t.written)
    (into_when t.statement (when_says s at name test value old names kernels t.statement none keeps more_kernels t.is)
    (is.written names kernels keeps more_kernels)))
    is

pub out_of_a_block : (s : Source) (whole next : RawItems) (rest : List RawItems) (old new : Walk) → Leaves old new → IsAt s whole old (Nothing ∷ next ∷ rest)
    → IsAt s whole new (next ∷ rest)
out_of_a_block s whole next rest old new l is =
    let around : reverse old.outer_tests.items ≡ new.tested ∷ reverse new.outer_tests.items =
    ap reverse l.around ∙ reverse-append new.outer_tests.items (new.tested ∷ []) in
    let depth : length old.outer_tests.items ≡ length new.outer_tests.items + 1 = ap length l.around ∙ length-append new.outer_tests.items (new.tested ∷ []) in
    let c : Scope = scope_of old in
    let scope : scope_of new ≡ behind c new.tested (reverse new.outer_tests.items) c =
    same_scope l.names l.kernels (sym (length-reverse new.outer_tests.items)) refl in
    record {
      deep = omega (arith, is.deep, depth);
      stand = is.stand.1;
      faultless = λ end h. is.faultless end (left_of s (Nothing ∷ next ∷ rest) end refl (sym around) (c, nothing, left_of s (next ∷ rest) end scope refl h));
      faulty = λ fault h. is.faulty fault (faulty_of s fault (Nothing ∷ next ∷ rest) refl (sym around)
          (inr (c, nothing, faulty_of s fault (next ∷ rest) scope refl h)));
      literals = ap (λ v. lists_in v ++ literals_left s (next ∷ rest)) l.literals ∙ is.literals;
      written = λ names kernels keeps more_kernels.
          subst (λ v. Completes s names kernels (length v.items) new.written (next ∷ rest) whole) (sym l.literals)
          (out_of_block l.written (is.written names kernels (subst (λ ns. KeepsNames ns names) l.names keeps)
          (subst (λ ks. KeepsKernels ks kernels) l.kernels more_kernels)));
      texts = subst (All (λ n. IsUtf8 n.text)) (sym l.names) is.texts;
      checked = subst (All IsChecked) (sym l.kernels) is.checked;
    }
