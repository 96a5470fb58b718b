-- What an operation prints.
use Rattle.std.proofs.Common.{◌≡◌, ℕ, List, [], get_or, Option, Some, None, option_map, unwrap_or, slice_get, refl, sym, ap, subst, ◌∙◌}
use Rattle.std.proofs.lemmas.Option.{unwrap_or-slice_get}
use Rattle.job_base.specs.declared.Refusal.{Refusal}
use Rattle.frame_ast.specs.Contents.{Contents, elements}
use Rattle.frame_ast.specs.Texts.{print_line}
use Rattle.kernel_exec.specs.declared.binds.Bind.{Bind}
use Rattle.kernel_exec.specs.Layout.{Holds}
use Rattle.merge_laws.specs.Graph.{Cells}
use Rattle.frame_core.specs.declared.plan.Act.{Act}
use Rattle.frame_core.specs.declared.plan.Act.TheVariants.{Fill, Move, Say, Set, AddTo, Put, Remove, Clear, Print, Report}
use Rattle.frame_core.specs.declared.plan.Op.{Op}
use Rattle.frame_core.specs.declared.plan.Plan.{Plan}
use Rattle.frame_core.specs.Names.{name_of}
use Rattle.frame_core.specs.Operations.{act_cells, cells_or, op_cells, op_answer}
use Rattle.frame_core.specs.Output.{contents_line, answer_line, op_line}
use Rattle.frame_core.specs.Ordered.{ActStands}
use Rattle.frame_core.proofs.Contents.{contents_are_read}
use Rattle.plan_run.specs.Lines.{MayPrint}
use Rattle.plan_run.specs.Says.{Said, Says}

pub printed : (P : List ℕ → Type 0) (line : ℕ) (name : List ℕ) (act : Act) (at : Bind) (cells : Cells) (answer : Option Refusal)
    → answer ≡ None → act ≡ Print at → MayPrint act cells → ((c : Contents) → Holds cells at c → P (print_line name (elements c) c))
    → P (answer_line line name act cells answer)
printed P line name act at cells answer none is may f =
    let there : (c : Contents) × Holds cells at c = subst (λ x. MayPrint x cells) is may in
    let same : answer_line line name act cells answer ≡ print_line name (elements there.0) there.0 =
    ap (λ x. answer_line line name act cells x) none
    ∙ (ap (λ x. answer_line line name x cells None) is ∙ ap (contents_line name) (contents_are_read at cells there.0 there.1)) in
    subst P (sym same) (f there.0 there.1)

-- no bytes of a name that the plan doesn't have
pub none_there : {X : Type 0} (see : X → List ℕ) (names : List (List ℕ)) (n : ℕ) (found : Option X)
    → option_map see found ≡ slice_get names n → found ≡ None → [] ≡ get_or names n []
none_there see names n found there is =
    sym (sym (unwrap_or-slice_get names n []) ∙ ap (λ text. unwrap_or text []) (sym there ∙ ap (option_map see) is))

-- Nothing that is printed is changed by its own statement.

still_prints : (plan : Plan) (act : Act) (cells : Cells) → ActStands act cells → MayPrint act (cells_or cells (act_cells plan act cells))
still_prints plan (Fill span literal) cells s = tt
still_prints plan (Move from to) cells s = tt
still_prints plan (Say refusal) cells s = tt
still_prints plan (Set at i v) cells s = tt
still_prints plan (AddTo at k v) cells s = tt
still_prints plan (Put at k v) cells s = tt
still_prints plan (Remove at i) cells s = tt
still_prints plan (Clear at) cells s = tt
still_prints plan (Print at) cells s = s
still_prints plan (Report made) cells s = tt

pub may_print : (plan : Plan) (op : Op) (old new : Cells) → new ≡ op_cells plan op old → ActStands op.act old → MayPrint op.act new
unfolding op_cells
may_print plan op old new e s = subst (MayPrint op.act) (sym e) (still_prints plan op.act old s)

same_line : (plan : Plan) (line : ℕ) (name : List ℕ) (act : Act) (cells : Cells) (answer : Option Refusal)
    → answer_line line name act (cells_or cells (act_cells plan act cells)) answer ≡ answer_line line name act cells answer
same_line plan line name act cells (Some refusal) = refl
same_line plan line name (Fill span literal) cells None = refl
same_line plan line name (Move from to) cells None = refl
same_line plan line name (Say refusal) cells None = refl
same_line plan line name (Set at i v) cells None = refl
same_line plan line name (AddTo at k v) cells None = refl
same_line plan line name (Put at k v) cells None = refl
same_line plan line name (Remove at i) cells None = refl
same_line plan line name (Clear at) cells None = refl
same_line plan line name (Print at) cells None = refl
same_line plan line name (Report made) cells None = refl

line_is : (plan : Plan) (op : Op) (old new : Cells) (answer : Option Refusal) → new ≡ op_cells plan op old → answer ≡ op_answer plan op old
    → answer_line op.line (name_of plan op.name) op.act new answer ≡ op_line plan op old
unfolding op_cells op_answer op_line
line_is plan op old new answer e f =
    ap (λ c. answer_line op.line (name_of plan op.name) op.act c answer) e
    ∙ (same_line plan op.line (name_of plan op.name) op.act old answer ∙ ap (λ x. answer_line op.line (name_of plan op.name) op.act old x) f)

pub op_said : (plan : Plan) (op : Op) (old new : Cells) (answer : Option Refusal) (a b : Said) → new ≡ op_cells plan op old → answer ≡ op_answer plan op old
    → Says a b (answer_line op.line (name_of plan op.name) op.act new answer) → Says a b (op_line plan op old)
op_said plan op old new answer a b e h p = subst (Says a b) (line_is plan op old new answer e h) p
