-- The number of the direction and of the cipher that a command's word names. A word that names none stands for 0, which no
-- direction and no cipher has, so that the call that gets it refuses it.
use Rattle.std.specs.Prelude.{ℕ, Option, Some, None}
use Rattle.recipe_words.specs.declared.arguments.Direction.{Direction}
use Rattle.recipe_words.specs.declared.arguments.Direction.TheVariants.{Encipher, Decipher}
use Rattle.recipe_words.specs.declared.arguments.Cipher.{Cipher}
use Rattle.recipe_words.specs.declared.arguments.Cipher.TheVariants.{Hierocrypt3, E2, Noekeon, NoekeonEarlier}

abbrev pub direction_number : Option Direction → ℕ
direction_number None = 0
direction_number (Some Encipher) = 1
direction_number (Some Decipher) = 2

abbrev pub cipher_number : Option Cipher → ℕ
cipher_number None = 0
cipher_number (Some Hierocrypt3) = 1
cipher_number (Some E2) = 2
cipher_number (Some Noekeon) = 3
cipher_number (Some NoekeonEarlier) = 4
