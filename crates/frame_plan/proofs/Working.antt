-- What a planner keeps of the work of kernels.
use Rattle.std.proofs.Common.{◌≡◌, ◌≤◌, ◌<◌, ◌+◌, ◌∙◌, ℕ, List, [], ◌∷◌, ◌++◌, Option, length, map, take, get_or, refl, ap, sym}
use Rattle.std.specs.Prelude.{Vec}
use Rattle.std.specs.declared.alloc.Global.{Global}
use Rattle.std.proofs.lemmas.List.{take_more, take_all}
use Rattle.frame_ast.specs.declared.kernel.Kernel.{Kernel}
use Rattle.frame_ast.specs.declared.script.Script.{Script}
use Rattle.frame_core.specs.declared.plan.Plan.{Plan}
use Rattle.plan_state.specs.Works.{work_of}
use Rattle.frame_plan.specs.declared.sections.SectionBook.{SectionBook}
use Rattle.frame_plan.specs.Sections.{IsTakenBack}
use Rattle.frame_plan.specs.Works.{works_by}

-- ---- kernel after kernel

map_more : (ks : List Kernel) (k : Kernel) → map work_of (ks ++ k ∷ []) ≡ map work_of ks ++ work_of k ∷ []
map_more [] k = refl
map_more (x ∷ ks) k = ap (λ l. work_of x ∷ l) (map_more ks k)

pub works_more : (ks : List Kernel) (i : ℕ) (k : Kernel) (works new : List (Option ℕ)) (work : Option ℕ) → i < length ks → k ≡ get_or ks i k
    → works ≡ map work_of (take i ks) → work ≡ work_of k → new ≡ works ++ work ∷ [] → new ≡ map work_of (take (i + 1) ks)
works_more ks i k works new work lt is so_far work_is new_is =
    new_is
    ∙ (λ j. so_far j ++ (work_is ∙ ap work_of is) j ∷ [])
    ∙ sym (map_more (take i ks) (get_or ks i k))
    ∙ ap (map work_of) (sym (take_more ks i k lt))

pub all_works : (ks : List Kernel) (i : ℕ) → length ks ≤ i → map work_of (take i ks) ≡ map work_of ks
all_works ks i past = ap (map work_of) (take_all i ks past)

-- ---- from one section to the next

-- a book that took back a plan keeps what it kept
pub works_kept : (script : Script) (before : SectionBook) (plan : Plan) (book : SectionBook) (works : Vec (Option ℕ) Global)
    → IsTakenBack before plan book → works ≡ before.planner.world.works
    → before.planner.world.works.items ≡ works_by before.small_jobs script.kernels.items
    → works.items ≡ works_by book.small_jobs script.kernels.items
works_kept script before plan book works taken same was =
    ap (λ (v : Vec (Option ℕ) Global). v.items) same
    ∙ was
    ∙ ap (λ (b : SectionBook). works_by b.small_jobs script.kernels.items) (sym taken)
