-- What is derived from a kernel spells one.
use Rattle.std.proofs.Common.{◌≡◌, ℕ, ◌+◌, ◌<◌, ◌≤◌, true, false, List, [], ◌∷◌, ◌++◌, length, None, Some, append_assoc, append-nil, refl, sym, ◌∙◌, ap, subst, arith}
use Rattle.job_base.specs.declared.Access.TheVariants.{Read, Write as WriteOnly, Both}
use Rattle.frame_grammar.specs.declared.token_kind.TokenKind.{TokenKind}
use Rattle.frame_grammar.specs.declared.symbols.Nonterminal.TheVariants as nonterminal
use Rattle.frame_grammar.specs.declared.symbols.Production.TheVariants as production
use Rattle.frame_grammar.specs.declared.symbols.Symbol.TheVariants as symbol
use Rattle.frame_grammar.specs.declared.symbols.Action.TheVariants as action
use Rattle.frame_grammar.specs.declared.symbols.Event.{Event}
use Rattle.frame_grammar.specs.Grammar.{head_of, Derives}
use Rattle.frame_grammar.specs.Bodies.{body_of}
use Rattle.frame_ast.specs.declared.kernel.ParamKind.TheVariants as kind
use Rattle.kernel_raw.specs.RawEvents.{on, SpellsParams, IsKernel}
use Rattle.kernel_raw.specs.RawEvents as raw
use Rattle.kernel_raw.proofs.Derived.Parts.{Builds, SkipsLines, parts}
use Rattle.kernel_raw.proofs.Derived.Meanings.{IsKind, IsParams, Build, Meant, width_up, params_up, block_up, is_kernel_up}
use Rattle.kernel_raw.proofs.Derived.Expressions as expressions
use Rattle.kernel_raw.proofs.Derived.Statements as statements

-- PARAMETERS

is_kind_up : (x n m : ℕ) (es : List Event) → n ≤ m → IsKind x es n → IsKind x es m
is_kind_up x n m es le k = record {
  param = k.param;
  is = k.is;
  called = omega arith;
  spells = k.spells;
  word = omega arith;
  width = width_up n m k.param.width le k.width;
}

parameters_none : Build production.ParametersNone
unfolding body_of head_of
parameters_none n end c = record { params = []; spells = raw.none refl; below = tt; from = c }

more_parameters_end : Build production.MoreParametersEnd
unfolding body_of head_of
more_parameters_end n end c = record { params = []; spells = raw.none refl; below = tt; from = c }

parameters_up : (k n m : ℕ) (es : List Event) → n ≤ m → IsParams k es n → IsParams k es m
parameters_up k n m es le p = record { params = p.params; spells = p.spells; below = params_up n m p.params le p.below; from = omega arith }

parameters_some : Build production.ParametersSome
unfolding body_of head_of
parameters_some n end c =
    subst (λ es. IsParams n (c.events ++ es) end) (sym (append-nil c.more.events)) (parameters_up n _ end _ c.more.more (c.means c.more.events _ c.more.means))

more_parameters : Build production.MoreParameters
unfolding body_of head_of
more_parameters n end c =
    let s = c.more.more in
    let p = s.means s.more.events _ s.more.means in
    subst (λ es. IsParams n (s.events ++ es) end) (sym (append-nil s.more.events))
    (record { params = p.params; spells = p.spells; below = params_up _ end p.params s.more.more p.below; from = omega arith })

parameter_events : (name : ℕ) (x : ℕ) (own rest : List Event) (q : Event) → name ≡ x
    → on action.Name x ∷ ((own ++ (q ∷ [])) ++ rest) ≡ on action.Name name ∷ own ++ q ∷ rest
parameter_events name x own rest q is = ap (λ es. on action.Name x ∷ es) (append_assoc own (q ∷ []) rest)
    ∙ ap (λ y. on action.Name y ∷ (own ++ q ∷ rest)) (sym is)

parameter : Build production.Parameter
unfolding body_of head_of
parameter n end c rest last more =
    let s = c.more.more.more.more in
    let k = s.means n (omega arith) in
    let from = more.from in
    let within : s.end ≤ last = omega arith in
    let named : k.param.name < last = omega (arith, k.is, k.called) in
    record {
      params = k.param ∷ more.params;
      spells = raw.param s.end s.events rest k.spells more.spells (parameter_events k.param.name n s.events rest (on action.Parameter s.end) k.is);
      below = (named, omega (arith, k.word), width_up s.end last k.param.width within k.width, more.below);
      from = omega (arith, k.called);
    }

int_parameter : Build production.IntParameter
unfolding body_of head_of
int_parameter n end c x below =
    record {
      param = record { name = x; kind = kind.Int; access = Read; word = x; width = None };
      is = refl;
      called = omega arith;
      spells = raw.int _ refl;
      word = omega arith;
      width = tt;
    }

read_parameter : Build production.ReadParameter
unfolding body_of head_of
read_parameter n end c x below =
    let s = c.more.more in
    subst (λ es. IsKind x (on action.ReadParameter c.more.end ∷ es) end) (sym (append-nil s.events))
    (is_kind_up x _ end _ s.more (s.means x c.more.end Read (omega arith)))

write_parameter : Build production.WriteParameter
unfolding body_of head_of
write_parameter n end c x below =
    let s = c.more.more in
    subst (λ es. IsKind x (on action.WriteParameter c.more.end ∷ es) end) (sym (append-nil s.events))
    (is_kind_up x _ end _ s.more (s.means x c.more.end WriteOnly (omega arith)))

read_write_parameter : Build production.ReadWriteParameter
unfolding body_of head_of
read_write_parameter n end c x below =
    let s = c.more.more in
    subst (λ es. IsKind x (on action.ReadWriteParameter c.more.end ∷ es) end) (sym (append-nil s.events))
    (is_kind_up x _ end _ s.more (s.means x c.more.end Both (omega arith)))

array_container : Build production.ArrayContainer
unfolding body_of head_of
array_container n end c x q a below =
    let s = c.more.more in
    subst (λ es. IsKind x (on (raw.access_action a) q ∷ on action.ArrayContainer c.more.end ∷ es) end) (sym (append-nil s.events))
    (is_kind_up x _ end _ s.more (s.means x q c.more.end a (omega arith)))

list_container : Build production.ListContainer
unfolding body_of head_of
list_container n end c x q a below =
    record {
      param = record { name = x; kind = kind.List; access = a; word = x; width = None };
      is = refl;
      called = omega arith;
      spells = raw.list q _ a refl;
      word = omega arith;
      width = tt;
    }

ref_container : Build production.RefContainer
unfolding body_of head_of
ref_container n end c x q a below =
    record {
      param = record { name = x; kind = kind.Ref; access = a; word = x; width = None };
      is = refl;
      called = omega arith;
      spells = raw.reference q _ a refl;
      word = omega arith;
      width = tt;
    }

map_container : Build production.MapContainer
unfolding body_of head_of
map_container n end c x q a below =
    record {
      param = record { name = x; kind = kind.Map; access = a; word = x; width = None };
      is = refl;
      called = omega arith;
      spells = raw.map q _ a refl;
      word = omega arith;
      width = tt;
    }

stream_container : Build production.StreamContainer
unfolding body_of head_of
stream_container n end c x q a below =
    record {
      param = record { name = x; kind = kind.Stream; access = a; word = n; width = None };
      is = refl;
      called = omega arith;
      spells = raw.stream q a refl;
      word = omega arith;
      width = tt;
    }

width_none : Build production.WidthNone
unfolding body_of head_of
width_none n end c x q r a below =
    record {
      param = record { name = x; kind = kind.Array; access = a; word = x; width = None };
      is = refl;
      called = omega arith;
      spells = raw.array q r a refl;
      word = omega arith;
      width = tt;
    }

width_some : Build production.WidthSome
unfolding body_of head_of
width_some n end c x q r a below =
    record {
      param = record { name = x; kind = kind.Array; access = a; word = n; width = Some c.more.end };
      is = refl;
      called = omega arith;
      spells = raw.wide q r a refl;
      word = omega arith;
      width = omega arith;
    }

-- KERNELS

kernel_events : (opens names body closes : Event) (ps st : List Event) → opens ∷ (names ∷ (ps ++ (body ∷ (st ++ (closes ∷ []))))) ≡ opens ∷ names ∷ ps ++ body
    ∷ st ++ closes ∷ []
kernel_events opens names body closes ps st = simp append_assoc

open_job : Build production.OpenJob
unfolding body_of head_of
open_job n end c =
    let s = c.more.more.more.more.more.more in
    let t = s.more.more.more.more.more in
    let p = s.means in
    let b = t.means in
    record {
      parallel = false;
      at = n;
      name = c.more.end;
      body_at = s.more.more.more.more.end;
      end_at = t.end;
      param_events = s.events;
      statement_events = t.events;
      params = p.params;
      body = b.block;
      spelled = kernel_events _ _ _ _ s.events t.events;
      with_params = p.spells;
      with_statements = b.spells;
      name_below = omega (arith, p.from);
      params_below = params_up _ end p.params (omega arith) p.below;
      body_below = block_up _ end b.block t.more b.below;
      few = omega arith;
    }

open_parallel : Build production.OpenParallel
unfolding body_of head_of
open_parallel n end c =
    let s = c.more.more.more.more.more.more in
    let t = s.more.more.more.more.more in
    let p = s.means in
    let b = t.means in
    record {
      parallel = true;
      at = n;
      name = c.more.end;
      body_at = s.more.more.more.more.end;
      end_at = t.end;
      param_events = s.events;
      statement_events = t.events;
      params = p.params;
      body = b.block;
      spelled = kernel_events _ _ _ _ s.events t.events;
      with_params = p.spells;
      with_statements = b.spells;
      name_below = omega (arith, p.from);
      params_below = params_up _ end p.params (omega arith) p.below;
      body_below = block_up _ end b.block t.more b.below;
      few = omega arith;
    }

kernel : Build production.Kernel
unfolding body_of head_of
kernel n end c = subst (λ es. IsKernel es end) (sym (append-nil c.events)) (is_kernel_up _ end c.events (omega arith) c.means)

lines_end : Build production.LinesEnd
unfolding body_of head_of
lines_end n end c = (refl, c)

lines_more : Build production.LinesMore
unfolding body_of head_of
lines_more n end c = (refl, omega arith)

-- ALL

builds : Builds Meant
unfolding head_of body_of
builds production.Kernel n end c = kernel n end c
builds production.LinesEnd n end c = lines_end n end c
builds production.LinesMore n end c = lines_more n end c
builds production.OpenJob n end c = open_job n end c
builds production.OpenParallel n end c = open_parallel n end c
builds production.ParametersNone n end c = parameters_none n end c
builds production.ParametersSome n end c = parameters_some n end c
builds production.MoreParametersEnd n end c = more_parameters_end n end c
builds production.MoreParameters n end c = more_parameters n end c
builds production.Parameter n end c = parameter n end c
builds production.IntParameter n end c = int_parameter n end c
builds production.ReadParameter n end c = read_parameter n end c
builds production.WriteParameter n end c = write_parameter n end c
builds production.ReadWriteParameter n end c = read_write_parameter n end c
builds production.ArrayContainer n end c = array_container n end c
builds production.ListContainer n end c = list_container n end c
builds production.RefContainer n end c = ref_container n end c
builds production.MapContainer n end c = map_container n end c
builds production.StreamContainer n end c = stream_container n end c
builds production.WidthNone n end c = width_none n end c
builds production.WidthSome n end c = width_some n end c
builds production.Block n end c = statements.block n end c
builds production.StatementsEnd n end c = statements.statements_end n end c
builds production.StatementsMore n end c = statements.statements_more n end c
builds production.VarStatement n end c = statements.var_statement n end c
builds production.NameStatement n end c = statements.name_statement n end c
builds production.AddStatement n end c = statements.add_statement n end c
builds production.RemoveStatement n end c = statements.remove_statement n end c
builds production.ClearStatement n end c = statements.clear_statement n end c
builds production.WriteStatement n end c = statements.write_statement n end c
builds production.BeginStatement n end c = statements.begin_statement n end c
builds production.IfStatement n end c = statements.if_statement n end c
builds production.ForStatement n end c = statements.for_statement n end c
builds production.WhileStatement n end c = statements.while_statement n end c
builds production.TargetName n end c = statements.target_name n end c
builds production.TargetPlace n end c = statements.target_place n end c
builds production.ValueExpression n end c = statements.value_expression n end c
builds production.ValueTryAdd n end c = statements.value_try_add n end c
builds production.ValueRemove n end c = statements.value_remove n end c
builds production.AddedValueNone n end c = statements.added_value_none n end c
builds production.AddedValueSome n end c = statements.added_value_some n end c
builds production.ElseNone n end c = statements.else_none n end c
builds production.ElseSome n end c = statements.else_some n end c
builds production.Expression n end c = expressions.expression n end c
builds production.MoreOrEnd n end c = expressions.more_or_end n end c
builds production.MoreOrSome n end c = expressions.more_or_some n end c
builds production.Both n end c = expressions.both n end c
builds production.MoreAndEnd n end c = expressions.more_and_end n end c
builds production.MoreAndSome n end c = expressions.more_and_some n end c
builds production.Comparison n end c = expressions.comparison n end c
builds production.ComparedNone n end c = expressions.compared_none n end c
builds production.ComparedEqual n end c = expressions.compared_equal n end c
builds production.ComparedNotEqual n end c = expressions.compared_not_equal n end c
builds production.ComparedLess n end c = expressions.compared_less n end c
builds production.ComparedLessEqual n end c = expressions.compared_less_equal n end c
builds production.ComparedGreater n end c = expressions.compared_greater n end c
builds production.ComparedGreaterEqual n end c = expressions.compared_greater_equal n end c
builds production.Sum n end c = expressions.sum n end c
builds production.MoreSumEnd n end c = expressions.more_sum_end n end c
builds production.MoreSumPlus n end c = expressions.more_sum_plus n end c
builds production.MoreSumMinus n end c = expressions.more_sum_minus n end c
builds production.Term n end c = expressions.term n end c
builds production.MoreTermEnd n end c = expressions.more_term_end n end c
builds production.MoreTermTimes n end c = expressions.more_term_times n end c
builds production.MoreTermOver n end c = expressions.more_term_over n end c
builds production.MoreTermRemainder n end c = expressions.more_term_remainder n end c
builds production.UnaryMinus n end c = expressions.unary_minus n end c
builds production.UnaryNot n end c = expressions.unary_not n end c
builds production.UnaryAtom n end c = expressions.unary_atom n end c
builds production.AtomNumber n end c = expressions.atom_number n end c
builds production.AtomIndex n end c = expressions.atom_index n end c
builds production.AtomName n end c = expressions.atom_name n end c
builds production.AtomParens n end c = expressions.atom_parens n end c
builds production.AtomLen n end c = expressions.atom_len n end c
builds production.AtomHas n end c = expressions.atom_has n end c
builds production.AtomCount n end c = expressions.atom_count n end c
builds production.AtomAt n end c = expressions.atom_at n end c
builds production.PlaceNone n end c = expressions.place_none n end c
builds production.PlaceSome n end c = expressions.place_some n end c
builds _ n end c = tt

skips : SkipsLines Meant
skips nonterminal.Lines n es end e m = m
skips _ n es end e m = cc

-- What is derived from a kernel, and what stands behind it.
pub kernel_derived : {n : ℕ} {es : List Event} {ks : List TokenKind} → Derives n es (symbol.Nonterminal nonterminal.Kernel ∷ []) ks
    → IsKernel es (n + length ks)
kernel_derived {n} {es} {ks} d =
    let p = parts Meant builds skips d in
    subst (λ xs. IsKernel xs (n + length ks)) (sym (p.is ∙ ap (λ r. p.own ++ r) p.more.0 ∙ append-nil p.own))
    (is_kernel_up p.end (n + length ks) p.own p.more.1 p.means)
