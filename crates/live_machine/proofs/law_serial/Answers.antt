use Rattle.live_machine.proofs.Serial.{single_is_step, serial_is_kick}
use Rattle.live_machine.proofs.law_serial.Goals as goal

pub returns-clause-single : goal.returns-clause-single
returns-clause-single g c = single_is_step _

pub returns-clause-kick : goal.returns-clause-kick
returns-clause-kick g c = serial_is_kick _
