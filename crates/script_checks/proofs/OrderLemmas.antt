-- The check of a statement, by its form.
use Rattle.std.proofs.Common.{◌≡◌, ℕ, List, [], None, Result, Ok, Err, sym, ◌∙◌, ap, subst}
use Rattle.frame_ast.specs.declared.script.Order.{Order}
use Rattle.script_checks.specs.declared.fault.OrderFault.{OrderFault}
use Rattle.script_text.specs.declared.source.Source.{Source}
use Rattle.script_text.specs.Raw.{OrderForm}
use Rattle.script_names.specs.Names.{Name}
use Rattle.script_checks.specs.Faults.{Scope, made_by}
use Rattle.script_checks.specs.Spelling.{Says, names_with, names_after}
use Rattle.script_checks.specs.Checks.{Checked, Makes, bare}

-- what is made of two parts that are what they are to be
pub of_parts : {A B C : Type 0} (f : A → B → C) (a x : A) (b y : B) → a ≡ x → b ≡ y → f a b ≡ f x y
of_parts f a x b y first second = ap (λ z. f z b) first ∙ ap (f x) second

pub by_form : (s : Source) (c : Scope) (literals at : ℕ) (form same : OrderForm) (r : Result Order OrderFault) → form ≡ same →
    Checked s c literals at same r → Checked s c literals at form r
by_form s c literals at form same r is h = subst (λ f. Checked s c literals at f r) (sym is) h

-- the same of a statement that makes its name

pub makes_by : (s : Source) (old new : List Name) (form same : OrderForm) (r : Result Order OrderFault) → form ≡ same →
    Makes s old new same r → Makes s old new form r
makes_by s old new form same r is h = subst (λ f. Makes s old new f r) (sym is) h

-- or makes none
pub makes_none : (s : Source) (names : List Name) (form same : OrderForm) (r : Result Order OrderFault) → form ≡ same → made_by s names same ≡ None →
    Checked s (bare names) 0 0 same r → Makes s names names form r
makes_none s names form same (Err e) is none h = makes_by s names names form same (Err e) is h
makes_none s names form same (Ok a) is none h =
    let after : names_after s names same ≡ names = ap (names_with s names) none in
    makes_by s names names form same (Ok a) is (h.0, (subst (λ ns. Says s ns [] 0 0 same a) after h.1, sym after))
