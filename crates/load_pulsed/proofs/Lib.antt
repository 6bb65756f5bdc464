mod Generals
