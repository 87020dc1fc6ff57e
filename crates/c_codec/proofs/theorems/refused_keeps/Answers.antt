-- Each call by the tests that it makes.
use Rattle.packet.specs.Layout.{packet}
use Rattle.command.specs.Write.{request_packet}
use Rattle.c_codec.proofs.Refusals.{open_keeps, packet_keeps, data_keeps, error_write_keeps, read_keeps}
use Rattle.c_codec.proofs.theorems.refused_keeps.Goals as goal

pub returns : goal.returns
returns c =
    record {
      payload_new = λ p max. (open_keeps p max).kept;
      raw_write = λ p b code csd1 csd2 ws. (packet_keeps p b (packet code csd1 csd2 ws)).kept;
      data_write = λ p b seq ws. (data_keeps p b seq ws).kept;
      request_write = λ p b seq count. (packet_keeps p b (request_packet record { seq = seq; count = count })).kept;
      error_write = λ p b reason seq. (error_write_keeps p b record { reason = reason; seq = seq }).kept;
      command_next = λ b at words lens. (read_keeps words lens b at).kept;
    }
