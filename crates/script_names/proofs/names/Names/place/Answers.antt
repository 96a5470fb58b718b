use Rattle.std.proofs.Common.{rules, ◌≡◌, ◌∙◌, true, false, Some, sym}
use Rattle.std.specs.Str.{bytes_eq}
use Rattle.script_names.specs.Index.{first_for}
use Rattle.script_names.proofs.IndexLemmas.{found_first, found_other}
use Rattle.script_names.proofs.names.Names.place.Goals as goal

pub returns-then-is_same : goal.returns-then-is_same
returns-then-is_same c =
    let found : first_for c.self.inside.firsts c.args.text.now ≡ Some c.in_ok-first.first = search rules in
    let same : bytes_eq c.index.result.now.text.now c.args.text.now ≡ true = search rules in
    sym (found_first c.self.inside.firsts c.self.inside.others c.self.inside.entries.items c.args.self.now c.args.text.now c.in_ok-first.first
    c.index.result.now
    c.self.view_is c.self.invariant found c.index.ensures same)

pub returns : goal.returns
returns c =
    let found : first_for c.self.inside.firsts c.args.text.now ≡ Some c.in_ok-first.first = search rules in
    let other : bytes_eq c.index.result.now.text.now c.args.text.now ≡ false = search rules in
    c.get.ensures ∙ sym (found_other c.self.inside.firsts c.self.inside.others
    c.self.inside.entries.items c.args.self.now c.args.text.now c.in_ok-first.first
    c.index.result.now
    c.self.view_is c.self.invariant found c.index.ensures other)
