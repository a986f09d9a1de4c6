use Rattle.report_reader.proofs.EventWords.{create_event, read_event, write_event}
use Rattle.report_reader.proofs.file_line.event_of.Goals as goal

pub returns-in_ok-event-in-create-clause-only : goal.returns-in_ok-event-in-create-clause-only
returns-in_ok-event-in-create-clause-only c = λ declared e is fit named rest_is.
    create_event e declared c.in_ok-event-in-create.event c.args.word.now c.args.rest.now is fit c.in-create.is named rest_is c.in_ok-event-in-create.ensures.only

pub returns-in_ok-event-in-write-clause-only : goal.returns-in_ok-event-in-write-clause-only
returns-in_ok-event-in-write-clause-only c = λ declared e is fit named rest_is.
    write_event e declared c.in_ok-event-in-write.event c.args.word.now c.args.rest.now is fit c.in-write.is named rest_is c.in_ok-event-in-write.ensures.only

pub returns-in_ok-event-in-read-clause-only : goal.returns-in_ok-event-in-read-clause-only
returns-in_ok-event-in-read-clause-only c = λ declared e is fit named rest_is.
    read_event e declared c.in_ok-event-in-read.event c.args.word.now c.args.rest.now is fit c.in-read.is named rest_is c.in_ok-event-in-read.ensures.only
