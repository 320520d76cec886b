-- The files that are written, by their names in a folder.
use Rattle.std.specs.Prelude.{List, map, ◌++◌, codes, Option, Some, None}
use Rattle.mg_compile.specs.declared.files.ClassFile.{ClassFile}
use Rattle.mg_projected.specs.declared.files.RoleFile.{RoleFile}
use Rattle.mg_client.specs.declared.files.ClientFile.{ClientFile}
use Rattle.mg_delivery.specs.declared.delivery.Action.{Action}
use Rattle.mg_delivery.specs.declared.delivery.Action.TheVariants.{Write}
use Rattle.mg_words.specs.Words.{Word}

-- a name of a file, in a folder where there is one
abbrev pub in_folder : Option Word → Word → Word
in_folder None name = name
in_folder (Some folder) name = folder ++ codes "/" ++ name

-- a class file is written, in the folder where there is one
abbrev pub class_written : Option Word → ClassFile → Action
class_written folder file = Write (record { name = in_folder folder file.name; text = file.bytes })

abbrev pub classes_written : Option Word → List ClassFile → List Action
classes_written folder files = map (class_written folder) files

-- the same of the file of a role
abbrev pub role_written : Option Word → RoleFile → Action
role_written folder file = Write (record { name = in_folder folder file.name; text = file.text })

abbrev pub roles_written : Option Word → List RoleFile → List Action
roles_written folder files = map (role_written folder) files

-- the same of the file of a client
abbrev pub client_written : Option Word → ClientFile → Action
client_written folder file = Write (record { name = in_folder folder file.name; text = file.text })

abbrev pub clients_written : Option Word → List ClientFile → List Action
clients_written folder files = map (client_written folder) files
