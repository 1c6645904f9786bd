use Rattle.turn_desk_progress_laws.specs.Links.{Held}
use Rattle.turn_desk_progress_laws.proofs.connections.connections_are_bound.Goals as goal

pub returns-clause-promised : goal.returns-clause-promised
returns-clause-promised c = λ plan old one new first pairs request address lifetime reply link progress fresh tcp run script timely more is.
    let held = c.handshakes_lead_on.ensures plan old one first request address lifetime reply link fresh tcp run script in
    c.links_lead_on.ensures.promised plan old new address lifetime link progress fresh tcp timely
    (c.links_lead_on.ensures.occurs plan old one new address lifetime link Held progress pairs fresh tcp timely held more is)

pub returns-clause-occurs : goal.returns-clause-occurs
returns-clause-occurs c = λ plan old one new first pairs request address lifetime reply link progress fresh tcp run script timely more is.
    let held = c.handshakes_lead_on.ensures plan old one first request address lifetime reply link fresh tcp run script in
    c.links_lead_on.ensures.occurs plan old one new address lifetime link Held progress pairs fresh tcp timely held more is
