use Rattle.perc_rtp.proofs.PacketLaws.{packet_is_read, packet_read, short_read, version_read, extension_read}
use Rattle.perc_rtp.proofs.laws.one_reading.Goals as goal

pub returns-clause-packet : goal.returns-clause-packet
returns-clause-packet c = packet_is_read

pub returns-clause-read : goal.returns-clause-read
returns-clause-read c = packet_read

pub returns-clause-short : goal.returns-clause-short
returns-clause-short c = short_read

pub returns-clause-version : goal.returns-clause-version
returns-clause-version c = version_read

pub returns-clause-extension : goal.returns-clause-extension
returns-clause-extension c = extension_read
