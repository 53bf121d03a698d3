-- The law of reading holds.
use Rattle.formulas.specs.Spelling.{ReadingLaw}
use Rattle.formulas.proofs.Faithful.{spell_told, reading-sound, reading-complete, reading-refused, reading-crowded}
use Rattle.formulas.proofs.Bytes.{token_word, word_token, spells-parts}
use Rattle.formulas.proofs.LaidOut.{laid-stands, laid_opens}

pub law : ReadingLaw
law = record {
  sound = reading-sound;
  complete = reading-complete;
  worded = token_word;
  wording = word_token;
  spells_bytes = spells-parts;
  refused = reading-refused;
  crowded = reading-crowded;
  unique = spell_told;
  stands_laid = laid-stands;
  opens = laid_opens;
}
