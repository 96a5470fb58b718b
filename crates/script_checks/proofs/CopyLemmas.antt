-- The faults of a copy, by what its source stands for.
use Rattle.std.proofs.Common.{◌≡◌, ℕ, Bool, true, false, cond, List, [], ◌∷◌, Option, Some, None, refl, ◌∙◌, subst}
use Rattle.kernel_raw.specs.declared.fault.StaticFault.{StaticFault}
use Rattle.frame_ast.specs.declared.kernel.FaultKind.TheVariants.{UnknownName, KindMismatch}
use Rattle.frame_ast.specs.Lists.{first_some}
use Rattle.script_checks.specs.declared.fault.OrderFault.{OrderFault}
use Rattle.frame_ast.specs.declared.name_kind.NameKind.{NameKind}
use Rattle.script_text.specs.declared.source.Source.{Source}
use Rattle.script_names.specs.Names.{Name}
use Rattle.frame_ast.specs.Accepted.{is_among}
use Rattle.frame_ast.specs.declared.name_kind.TheConstants.{CONTAINERS}
use Rattle.script_checks.specs.Faults.{unless, misfit, copy_fault, long_fault, make_fault}
use Rattle.frame_ast.specs.declared.script.Order.TheVariants as order
use Rattle.script_checks.specs.Faults.{made_alike}
use Rattle.script_checks.specs.Spelling.{place_of, names_with}
use Rattle.script_checks.specs.Checks.{Refuses, IsPlace}
use Rattle.script_checks.proofs.FaultLemmas.{first_next, first_here, first_end, first_none, refuses_here}

-- the first fault of `copy`, by what its source stands for
abbrev pub copy_first : Source → List Name → (name of : ℕ) → Option NameKind → Option StaticFault
copy_first s names name of o = first_some (copy_fault s names o name ∷ misfit o CONTAINERS of ∷ [])

pub unknown_long : (s : Source) (names : List Name) (name of : ℕ) (o : Option NameKind) (e : OrderFault) → None ≡ o → Refuses (long_fault s name) e →
    Refuses (copy_first s names name of o) e
unknown_long s names name of o e is h =
    subst (λ k. Refuses (copy_first s names name of k) e) is (refuses_here (long_fault s name) _ e h)

pub unknown_source : (s : Source) (names : List Name) (name of : ℕ) (o : Option NameKind) → None ≡ o → long_fault s name ≡ None →
    copy_first s names name of o ≡ Some (record { at = of; kind = UnknownName })
unknown_source s names name of o is h =
    subst (λ k. copy_first s names name of k ≡ Some (record { at = of; kind = UnknownName })) is (first_next (long_fault s name) _ h ∙ first_here _ [] _ refl)

-- faults where the source's kind isn't one that can be copied, or is one
abbrev by_test : Source → List Name → (name of : ℕ) → NameKind → Bool → Option StaticFault
by_test s names name of k b = first_some (cond b (make_fault s names k name) (long_fault s name) ∷ unless b KindMismatch of ∷ [])

pub other_long : (s : Source) (names : List Name) (name of : ℕ) (o : Option NameKind) (k : NameKind) (e : OrderFault) → Some k ≡ o
    → false ≡ is_among k CONTAINERS → Refuses (long_fault s name) e →
    Refuses (copy_first s names name of o) e
other_long s names name of o k e is test h =
    subst (λ j. Refuses (copy_first s names name of j) e) is (subst (λ b. Refuses (by_test s names name of k b) e) test
    (refuses_here (long_fault s name) _ e h))

pub other_source : (s : Source) (names : List Name) (name of : ℕ) (o : Option NameKind) (k : NameKind) → Some k ≡ o → false ≡ is_among k CONTAINERS
    → long_fault s name ≡ None →
    copy_first s names name of o ≡ Some (record { at = of; kind = KindMismatch })
other_source s names name of o k is test h =
    subst (λ j. copy_first s names name of j ≡ Some (record { at = of; kind = KindMismatch })) is
    (subst (λ b. by_test s names name of k b ≡ Some (record { at = of; kind = KindMismatch })) test
    (first_next (long_fault s name) _ h ∙ first_here _ [] _ refl))

pub copy_unmade : (s : Source) (names : List Name) (name of : ℕ) (o : Option NameKind) (k : NameKind) (e : OrderFault) → Some k ≡ o
    → true ≡ is_among k CONTAINERS → Refuses (make_fault s names k name) e →
    Refuses (copy_first s names name of o) e
copy_unmade s names name of o k e is test h =
    subst (λ j. Refuses (copy_first s names name of j) e) is (subst (λ b. Refuses (by_test s names name of k b) e) test
    (refuses_here (make_fault s names k name) _ e h))

pub copy_good : (s : Source) (names : List Name) (name of : ℕ) (o : Option NameKind) (k : NameKind) → Some k ≡ o → true ≡ is_among k CONTAINERS
    → make_fault s names k name ≡ None →
    copy_first s names name of o ≡ None
copy_good s names name of o k is test h =
    subst (λ j. copy_first s names name of j ≡ None) is
    (subst (λ b. by_test s names name of k b ≡ None) test (first_none (make_fault s names k name) _ h (first_none None [] refl first_end)))

-- what a copy without a fault says
pub copy_says : (s : Source) (names : List Name) (name of : ℕ) (o : Option NameKind) (k : NameKind) (n p : ℕ) → Some k ≡ o →
    n ≡ place_of s (names_with s names (Some (name, k))) name → IsPlace s names of p →
    order.Copy n p ≡ order.Copy (place_of s (names_with s names (made_alike name o)) name) (place_of s (names_with s names (made_alike name o)) of)
copy_says s names name of o k n p is made keeps =
    subst (λ j. order.Copy n p ≡ order.Copy (place_of s (names_with s names (made_alike name j)) name) (place_of s (names_with s names (made_alike name j)) of))
    is
    (cc (made, keeps (Some (name, k))))
