use Rattle.std.proofs.lemmas.Result.{IfOk-weaker}
use Rattle.scenario_rules.proofs.RuleOrder.{if_err, text_fault}
use Rattle.scenario_rules.proofs.reading.read_named.Goals as goal

pub returns-in-Ok-clause-found : goal.returns-in-Ok-clause-found
returns-in-Ok-clause-found c =
    IfOk-weaker c.named_of.result _ _ (λ s is. record {
      draft = c.in-Ok.draft;
      table = record { spells = c.in-Ok.ensures.found; only = c.in-Ok.ensures.only };
      named = is;
    }) c.named_of.ensures.found

pub returns-in-Ok-clause-refused : goal.returns-in-Ok-clause-refused
returns-in-Ok-clause-refused c =
    if_err c.named_of.result _ _
    (λ e fault. text_fault c.args.text.now c.in-Ok.draft e (record { spells = c.in-Ok.ensures.found; only = c.in-Ok.ensures.only }) fault)
    c.named_of.ensures.refused
