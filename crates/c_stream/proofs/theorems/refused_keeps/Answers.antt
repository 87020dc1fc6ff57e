-- Each call by the tests that it makes.
use Rattle.c_stream.proofs.Refusals.{new_keeps, reset_keeps, send_keeps, request_keeps, hear_keeps, error_keeps, nak_keeps, poll_keeps, take_keeps, write_keeps, write_request_keeps}
use Rattle.c_stream.proofs.theorems.refused_keeps.Goals as goal

pub returns : goal.returns
returns c =
    record {
      start = λ st cfg window places ring. (new_keeps st ring cfg window places).kept;
      reset = λ st ring. (reset_keeps st ring).kept;
      send = λ st cfg ring ws. (send_keeps st ring cfg ws).kept;
      request = λ st cfg ring seq count. (request_keeps st ring cfg seq count).kept;
      hear = λ st cfg time seq. (hear_keeps st cfg time seq).kept;
      error = λ st reason seq. (error_keeps st reason seq).kept;
      nak = λ st. (nak_keeps st).kept;
      poll = λ st cfg time. (poll_keeps st cfg time).kept;
      take = λ st cfg p b. (take_keeps st p b cfg).kept;
      write = λ st cfg time p b ring n m. ((write_keeps st p b ring cfg time).kept n).2 m;
      write_payload = λ st cfg time p b ring n. (((write_keeps st p b ring cfg time).kept n).0, ((write_keeps st p b ring cfg time).kept n).1);
      write_request = λ st cfg time p b ring. write_request_keeps st p b ring cfg time;
    }
