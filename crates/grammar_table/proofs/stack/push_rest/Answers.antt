use Rattle.std.proofs.Common.{sym}
use Rattle.grammar_table.proofs.Stacks.{popped}
use Rattle.grammar_table.proofs.stack.push_rest.Goals as goal

pub returns : goal.returns
returns c first rest is =
    popped c.args.stack.now.items c.push_body.new.stack.items c.pop.new.self.items c.args.production _ c.pop.result first rest c.in_ok-push_body.ensures is
    c.pop.ensures.items (sym c.push_body.new.stack.ok.0) c.pop.ensures.variant.1
