-- `strings::with_leads` meets its contract. Assumes nothing.
use Rattle.strings.proofs.Forming.{too_long, numbered-finished}
use Rattle.strings.proofs.with_leads.Goals as goal

pub returns-then-pattern-gt255 : goal.returns-then-pattern-gt255
returns-then-pattern-gt255 c = too_long c.args.q c.args.pattern.now c.requires.0 c.if-pattern-gt255.true

pub returns : goal.returns
returns c =
    let leads = c.leads_of-leads.ensures in
    numbered-finished c.args.q c.args.pattern.now c.requires.0 c.requires.2.0 _ c.requires.1 c.requires.2.1 (leads.2 _ c.requires.2.1) leads.0 leads.1
