use Rattle.packet_collector.proofs.Exact.{read_format}
use Rattle.packet_collector.proofs.reading.read_front.Goals as goal

pub returns-in-None-clause-format : goal.returns-in-None-clause-format
returns-in-None-clause-format c = read_format c.args.format c.read_header.result c.args.reader.now
    c.read_header.new.reader c.read_header.ensures.found
