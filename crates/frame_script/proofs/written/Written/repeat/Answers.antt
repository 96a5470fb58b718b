use Rattle.std.proofs.Common.{rules, arith, ◌≡◌, ◌≤◌, ◌-◌, ◌+◌, ◌∙◌, true, refl, sym, ap, subst, [], length, take, drop}
use Rattle.std.specs.Option.{is_some}
use Rattle.frame_script.specs.Writing.{PutsCopies}
use Rattle.frame_script.proofs.Writing.Repeats.{nothing_repeated, once_more, left_over, as_often, as_long, same_block}
use Rattle.frame_script.proofs.written.Written.repeat.Goals as goal

pub returns-then-end-start : goal.returns-then-end-start
returns-then-end-start c =
    let len : c.len-end.result ≡ length c.self.inside.statements.items = search rules in
    let same : length c.self.inside.statements.items ≡ length c.args.self.now.statements = ap (λ v. length v.statements) c.self.view_is in
    nothing_repeated c.args.self.now (c.args.count - 1) c.args.start (omega (arith, len, same, c.if-end-start.true))

pub loop-init : goal.loop-init
loop-init c = record { some = omega arith; repeated = ([], refl, refl) }

pub returns-then-is_some : goal.returns-then-is_some
returns-then-is_some c =
    let some : is_some c.loop.self.over ≡ true = ap (λ v. is_some v.over) (sym c.self-in-loop.view_is) ∙ sym c.is_some.ensures ∙ c.if-is_some.true in
    left_over (c.loop.counter - 1) (c.args.count - 1) (drop c.args.start c.args.self.now.statements) c.args.self.now c.loop.self c.loop.invariant.some some
    c.loop.invariant.repeated

pub copy-requires : goal.copy-requires
copy-requires c =
    let len : c.len-end.result ≡ length c.self.inside.statements.items = search rules in
    let same : length c.self.inside.statements.items ≡ length c.args.self.now.statements = ap (λ v. length v.statements) c.self.view_is in
    let long : length c.args.self.now.statements ≤ length c.loop.self.statements =
    as_long c.args.self.now c.loop.self c.loop.invariant.repeated.0 c.loop.invariant.repeated.2 in
    record { order = omega (arith, c.if-end-start.false); within = omega (arith, len, same, long) }

pub loop-preserved : goal.loop-preserved
loop-preserved c =
    let len : c.len-end.result ≡ length c.self.inside.statements.items = search rules in
    let same : length c.self.inside.statements.items ≡ length c.args.self.now.statements = ap (λ v. length v.statements) c.self.view_is in
    let block : drop c.args.start (take c.len-end.result c.loop.self.statements) ≡ drop c.args.start c.args.self.now.statements =
    same_block c.args.self.now c.loop.self c.loop.invariant.repeated.0 c.args.start c.len-end.result c.loop.invariant.repeated.2 (len ∙ same) in
    record {
      some = omega (arith, c.loop-test.true);
      repeated = once_more (c.loop.counter - 1) (c.loop.counter + 1 - 1) (drop c.args.start c.args.self.now.statements) c.args.self.now c.loop.self
          c.copy.new.self
          (omega (arith, c.loop.auto.counter)) c.loop.invariant.repeated
          (subst (λ xs. PutsCopies xs c.loop.self c.copy.new.self) block c.in_ok-copy.ensures);
    }

pub returns : goal.returns
returns c =
    as_often (c.loop.counter - 1) (c.args.count - 1) (drop c.args.start c.args.self.now.statements) c.args.self.now c.loop.self
    (omega (arith, c.loop-test.false, c.loop.invariant.some)) c.loop.invariant.repeated
