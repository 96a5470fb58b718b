-- `set`, `add`, `put`, `remove` and `clear`.
use Rattle.std.proofs.Common.{ℤ, pos, [], ◌∷◌, Option, Some, None, Ok, refl}
use Rattle.std.specs.Prelude.{unwrap_or}
use Rattle.frame_ast.specs.declared.name_kind.NameKind.TheVariants as kind
use Rattle.frame_ast.specs.declared.name_kind.TheConstants.{REMOVABLE, CLEARABLE}
use Rattle.frame_ast.specs.declared.script.Order.TheVariants as order
use Rattle.frame_ast.specs.Accepted.{set_kinds, add_kinds}
use Rattle.frame_ast.specs.Contents.{cleared}
use Rattle.frame_ast.specs.Effects.{views_broken}
use Rattle.frame_ast.specs.Orders.{set_in, add_in, put_pair_in, remove_in}
use Rattle.frame_ast.specs.Refusals.{unchanged}
use Rattle.frame_ast.specs.States.{container_at, contents_at}
use Rattle.kernel_exec.specs.Words.{put_word, clear_word}
use Rattle.frame_core.specs.declared.plan.Act.TheVariants.{Set, AddTo, Put, Remove, Clear}
use Rattle.frame_core.specs.Operations.{set_cells, add_cells, remove_cells}
use Rattle.frame_core.specs.Ordered.{MayBeSet, IsListOrMap, IsMap, MayBeCleared}
use Rattle.plan_laws.specs.Accessing.{SetsArePlanned, AddsArePlanned, PutsArePlanned, RemovesArePlanned, ClearsArePlanned}
use Rattle.plan_laws.proofs.Statements.AccessingWords.{set_does, add_list_does, add_map_does, put_does, remove_does, clear_does}
use Rattle.plan_laws.proofs.Statements.AccessingSteps.{unblocked_is, broken_same, itself_same, broken_by_same, IsOneAccess, accesses_are_planned}

set_access : (at : Option ℤ) (n : ℤ) → IsOneAccess (set_kinds at) (λ name. order.Set name at n) (λ b. Set b (unwrap_or at (pos 0)) n) MayBeSet
    (λ b cells. set_cells b (unwrap_or at (pos 0)) n cells) (λ v c. set_in v c at n) (λ name t. t)
set_access at n = record {
  does = λ start old v c u k fits h. set_does start old at n v c u k fits h;
  touches = λ b. refl;
  runs = λ plan b cells. refl;
  answers = λ b r. refl;
  quiet = λ b cells line text. refl;
  fits = λ plan b stands may. (stands, may);
  stands = λ b cells c h. (c, h);
  refuses = λ g s name e. unblocked_is s name (unchanged name (set_in (s.values name) (contents_at s name) at n)) e;
  changes = λ g s line name. refl;
  same = λ name t. itself_same t;
  keeps = λ cause s name. itself_same s;
}

pub sets_are_planned : SetsArePlanned
sets_are_planned at n = accesses_are_planned (set_kinds at) (λ name. order.Set name at n) (λ b. Set b (unwrap_or at (pos 0)) n) MayBeSet
    (λ b cells. set_cells b (unwrap_or at (pos 0)) n cells) (λ v c. set_in v c at n) (λ name t. t) (set_access at n)

add_list_access : (n : ℤ) → IsOneAccess (add_kinds None) (λ name. order.Add name n None) (λ b. AddTo b (pos 0) n) IsListOrMap
    (λ b cells. add_cells b (pos 0) n cells) (λ v c. add_in c n None) views_broken
add_list_access n = record {
  does = λ start old v c u k fits h. add_list_does start old n v c u k h;
  touches = λ b. refl;
  runs = λ plan b cells. refl;
  answers = λ b r. refl;
  quiet = λ b cells line text. refl;
  fits = λ plan b stands may. (stands, may);
  stands = λ b cells c h. (c, h);
  refuses = λ g s name e. unblocked_is s name (unchanged name (add_in (contents_at s name) n None)) e;
  changes = λ g s line name. refl;
  same = λ name t. broken_same (contents_at t name) (container_at t name) t;
  keeps = λ cause s name. broken_by_same cause name s;
}

add_map_access : (key n : ℤ) → IsOneAccess (add_kinds (Some n)) (λ name. order.Add name key (Some n)) (λ b. AddTo b key n) IsListOrMap
    (λ b cells. add_cells b key n cells) (λ v c. add_in c key (Some n)) views_broken
add_map_access key n = record {
  does = λ start old v c u k fits h. add_map_does start old key n v c u k fits h;
  touches = λ b. refl;
  runs = λ plan b cells. refl;
  answers = λ b r. refl;
  quiet = λ b cells line text. refl;
  fits = λ plan b stands may. (stands, may);
  stands = λ b cells c h. (c, h);
  refuses = λ g s name e. unblocked_is s name (unchanged name (add_in (contents_at s name) key (Some n))) e;
  changes = λ g s line name. refl;
  same = λ name t. broken_same (contents_at t name) (container_at t name) t;
  keeps = λ cause s name. broken_by_same cause name s;
}

pub adds_are_planned : AddsArePlanned
adds_are_planned first None = accesses_are_planned (add_kinds None) (λ name. order.Add name first None) (λ b. AddTo b (pos 0) first) IsListOrMap
    (λ b cells. add_cells b (pos 0) first cells) (λ v c. add_in c first None) views_broken (add_list_access first)
adds_are_planned first (Some n) = accesses_are_planned (add_kinds (Some n)) (λ name. order.Add name first (Some n)) (λ b. AddTo b first n) IsListOrMap
    (λ b cells. add_cells b first n cells) (λ v c. add_in c first (Some n)) views_broken (add_map_access first n)

put_access : (key n : ℤ) → IsOneAccess (kind.Map ∷ []) (λ name. order.Put name key n) (λ b. Put b key n) IsMap
    (λ b cells. put_word 0 key n b cells) (λ v c. put_pair_in c key n) (λ name t. t)
put_access key n = record {
  does = λ start old v c u k fits h. put_does start old key n v c u k fits h;
  touches = λ b. refl;
  runs = λ plan b cells. refl;
  answers = λ b r. refl;
  quiet = λ b cells line text. refl;
  fits = λ plan b stands may. (stands, may);
  stands = λ b cells c h. (c, h);
  refuses = λ g s name e. unblocked_is s name (unchanged name (put_pair_in (contents_at s name) key n)) e;
  changes = λ g s line name. refl;
  same = λ name t. itself_same t;
  keeps = λ cause s name. itself_same s;
}

pub puts_are_planned : PutsArePlanned
puts_are_planned key n = accesses_are_planned (kind.Map ∷ []) (λ name. order.Put name key n) (λ b. Put b key n) IsMap
    (λ b cells. put_word 0 key n b cells) (λ v c. put_pair_in c key n) (λ name t. t) (put_access key n)

remove_access : (i : ℤ) → IsOneAccess REMOVABLE (λ name. order.Remove name i) (λ b. Remove b i) IsListOrMap
    (λ b cells. remove_cells b i cells) (λ v c. remove_in c i) views_broken
remove_access i = record {
  does = λ start old v c u k fits h. remove_does start old i v c u k fits h;
  touches = λ b. refl;
  runs = λ plan b cells. refl;
  answers = λ b r. refl;
  quiet = λ b cells line text. refl;
  fits = λ plan b stands may. (stands, may);
  stands = λ b cells c h. (c, h);
  refuses = λ g s name e. unblocked_is s name (unchanged name (remove_in (contents_at s name) i)) e;
  changes = λ g s line name. refl;
  same = λ name t. broken_same (contents_at t name) (container_at t name) t;
  keeps = λ cause s name. broken_by_same cause name s;
}

pub removes_are_planned : RemovesArePlanned
removes_are_planned i = accesses_are_planned REMOVABLE (λ name. order.Remove name i) (λ b. Remove b i) IsListOrMap
    (λ b cells. remove_cells b i cells) (λ v c. remove_in c i) views_broken (remove_access i)

clear_access : IsOneAccess CLEARABLE (λ name. order.Clear name) (λ b. Clear b) MayBeCleared
    (λ b cells. Ok (clear_word b cells)) (λ v c. Ok (cleared c)) views_broken
clear_access = record {
  does = λ start old v c u k fits h. clear_does start old v c u k h;
  touches = λ b. refl;
  runs = λ plan b cells. refl;
  answers = λ b r. refl;
  quiet = λ b cells line text. refl;
  fits = λ plan b stands may. (stands, may);
  stands = λ b cells c h. (c, h);
  refuses = λ g s name e. e;
  changes = λ g s line name. refl;
  same = λ name t. broken_same (contents_at t name) (container_at t name) t;
  keeps = λ cause s name. itself_same s;
}

pub clears_are_planned : ClearsArePlanned
clears_are_planned = accesses_are_planned CLEARABLE (λ name. order.Clear name) (λ b. Clear b) MayBeCleared
    (λ b cells. Ok (clear_word b cells)) (λ v c. Ok (cleared c)) views_broken clear_access
