use Rattle.script_text.proofs.source.Source.line.Goals as goal

pub returns : goal.returns
returns c = c.line_at.ensures c.args.self.bytes.now
